use Rattle.std.proofs.Common.{◌≡◌, length}
use Rattle.net_core.specs.inner.Asking.{flows_where}
use Rattle.net_core.proofs.FailingLemmas.{FailUpTo, SameFrom}
use Rattle.net_core.proofs.failing.change_failing.Given as goal

-- The sets so far are those of the new flows, and the others are unchanged.
abbrev pub invariant-loop-place : goal.invariant-loop-place
invariant-loop-place l = record {
  counted : length l.failing.items ≡ length l.description.invariants;
  done : FailUpTo l.description.asked.size (flows_where l.asked l.description.asked.flows l.flow) l.description.invariants l.failing.items l.place;
  rest : SameFrom l.failing.items l.fn.failing.items l.place;
}
