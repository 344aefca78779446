use Rattle.std.proofs.Common.{take}
use Rattle.flow_set.specs.FlowSet.{with_flow}
use Rattle.permit_core.specs.Policy.{AllHold}
use Rattle.permit_core.specs.inner.Trials.{AreTried}
use Rattle.permit_core.proofs.denial_by_steps.blame_by_steps.Given as goal

-- The invariants so far hold with the flow, and all trials have the flows of the policy.
abbrev pub invariant-loop-number : goal.invariant-loop-number
invariant-loop-number g l = record {
  tried : AreTried g.I.Stepwise.fits g.I.Tried.Trial.tried l.invs l.trials.items l._permitted.flows;
  hold : AllHold g.I.Invariant.holds_on (take l.number l.invs) (with_flow l._permitted.flows l.f);
}
