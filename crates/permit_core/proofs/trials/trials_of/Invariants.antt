use Rattle.std.proofs.Common.{◌≡◌, ℕ, ◌<◌, length, slice_index_or}
use Rattle.flow_set.specs.inner.Steps.{untried}
use Rattle.permit_core.proofs.trials.trials_of.Given as goal

-- The invariants so far have trials.
abbrev pub invariant-loop-inv : goal.invariant-loop-inv
invariant-loop-inv g l = record {
  counted : length l.trials.items ≡ l.inv-index;
  fits : (k : ℕ) (x : _) (t : _) → k < l.inv-index → g.I.Stepwise.fits (slice_index_or l.invs k x) (slice_index_or l.trials.items k t);
  begun : (k : ℕ) (t : _) → k < l.inv-index → g.I.Tried.Trial.tried (slice_index_or l.trials.items k t) ≡ untried l.e;
}
