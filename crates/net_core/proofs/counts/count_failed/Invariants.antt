use Rattle.std.proofs.Common.{◌≤◌}
use Rattle.net_core.proofs.CountLemmas.{CountTo}
use Rattle.net_core.proofs.counts.count_failed.Given as goal

-- The invariants so far are counted, each at most once.
abbrev pub invariant-loop-invariant : goal.invariant-loop-invariant
invariant-loop-invariant l = record {
  goes : CountTo l.description.invariants l.description.asked.flows l.invariant-index l.count;
  small : l.count ≤ l.invariant-index;
}
