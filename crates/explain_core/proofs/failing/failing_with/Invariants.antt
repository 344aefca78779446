use Rattle.flow_set.specs.FlowSet.{with_flow}
use Rattle.permit_core.specs.inner.Trials.{AreTried}
use Rattle.explain_core.proofs.NumberLaws.{AreFound}
use Rattle.explain_core.proofs.failing.failing_with.Given as goal

-- The numbers are those of the failing invariants so far, and all trials have the flows of the set.
abbrev pub invariant-loop-number : goal.invariant-loop-number
invariant-loop-number g l = record {
  tried : AreTried g.I.Stepwise.fits g.I.Tried.Trial.tried l.invs l.trials.items l._set.flows;
  found : AreFound (g.C.Choice.chosen l.choice) g.I.Invariant.holds_on l.invs (with_flow l._set.flows l.f) l.number l.numbers.items;
}
