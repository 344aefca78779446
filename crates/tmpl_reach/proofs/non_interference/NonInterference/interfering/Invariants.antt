use Rattle.std.proofs.Common.{ℕ, ◌<◌, ◌↔◌}
use Rattle.std.specs.FinSet as set
use Rattle.std.specs.Prelude.{IsTrue}
use Rattle.tmpl_reach.specs.NonInterference.{IsInterfering}
use Rattle.tmpl_reach.proofs.non_interference.NonInterference.interfering.Given as goal

-- The interfering hosts so far.
abbrev pub invariant-loop-host : goal.invariant-loop-host
invariant-loop-host l = (j : ℕ) → IsTrue (set.contains l.hosts j) ↔ ((j < l.host) × IsInterfering l.self j)
