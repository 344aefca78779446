use Rattle.std.proofs.Common.{take}
use Rattle.std.specs.Prelude.{All}
use Rattle.flow_set.specs.FlowSet.{with_flow}
use Rattle.permit_core.specs.inner.Tried.{AllStep}
use Rattle.permit_core.proofs.chosen.all_hold_with.Given as goal

-- The flows of the trials are unchanged, and the invariants so far hold with the flow.
abbrev pub invariant-loop-i : goal.invariant-loop-i
invariant-loop-i g l =
    let tried = g.I.Tried.Trial.tried in
    record {
      same : AllStep g.I.Stepwise.fits tried (λ fs. fs) l.fn.trials.items l.trials.items;
      hold : All (λ t. g.I.Invariant.holds_on t.invariant (with_flow (tried t.trial).flows l.f)) (take l.i l.fn.trials.items);
    }
