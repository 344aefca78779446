use Rattle.std.proofs.Common.{◌≡◌}
use Rattle.std.specs.Prelude.{vec_len}
use Rattle.net_core.proofs.FailingLemmas.{FailUpTo}
use Rattle.net_core.proofs.failing.failing_flows.Given as goal

-- A set for each invariant so far.
abbrev pub invariant-loop-invariant : goal.invariant-loop-invariant
invariant-loop-invariant l = record {
  counted : vec_len l.failing ≡ l.invariant-index;
  done : FailUpTo l.description.asked.size l.description.asked.flows l.description.invariants l.failing.items l.invariant-index;
}
