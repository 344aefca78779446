use Rattle.std.proofs.Common.{◌≤◌}
use Rattle.net_core.proofs.CountLemmas.{CountTo}
use Rattle.net_core.proofs.counts.count_failing.Given as goal

-- The invariants so far are counted, each at most once.
abbrev pub invariant-loop-place : goal.invariant-loop-place
invariant-loop-place l = record {
  goes : CountTo l.description.invariants l.description.asked.flows l.place l.count;
  small : l.count ≤ l.place;
}
