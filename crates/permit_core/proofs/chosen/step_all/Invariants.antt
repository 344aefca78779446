use Rattle.std.proofs.Common.{◌≡◌, ℕ, ◌<◌, ◌≤◌, length, slice_index_or}
use Rattle.flow_set.specs.FlowSet.{with_flow}
use Rattle.permit_core.specs.inner.Tried.{AllFit, invariants_of}
use Rattle.permit_core.proofs.chosen.step_all.Given as goal

-- The trials so far have taken the flow.
abbrev pub invariant-loop-i : goal.invariant-loop-i
invariant-loop-i g l =
    let tried = g.I.Tried.Trial.tried in
    record {
      counted : length l.trials.items ≡ length l.fn.trials.items;
      invariants : invariants_of l.trials.items ≡ invariants_of l.fn.trials.items;
      fits : AllFit g.I.Stepwise.fits l.trials.items;
      stepped : (k : ℕ) (t : _) → k < l.i → k < length l.fn.trials.items
          → (tried (slice_index_or l.trials.items k t).trial).flows ≡ with_flow (tried (slice_index_or l.fn.trials.items k t).trial).flows l.f;
      rest : (k : ℕ) (t : _) → l.i ≤ k → slice_index_or l.trials.items k t ≡ slice_index_or l.fn.trials.items k t;
    }
