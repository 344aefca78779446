use Rattle.std.proofs.Common.{ℕ, ◌<◌}
use Rattle.tmpl_reach.specs.NonInterference.{IsInterfering}
use Rattle.tmpl_reach.specs.inner.Interferences.{IsApart}
use Rattle.tmpl_reach.proofs.non_interference.NonInterference.all_isolated.Given as goal

abbrev pub invariant-loop-host : goal.invariant-loop-host
invariant-loop-host l = (i : ℕ) → i < l.host → IsInterfering l.self i → IsApart l.self l.closure.flows i
