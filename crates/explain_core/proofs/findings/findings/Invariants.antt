use Rattle.std.proofs.Common.{◌≡◌, ◌++◌}
use Rattle.flow_set.specs.FlowSet.{with_flow, without}
use Rattle.permit_core.specs.inner.Trials.{AreTried}
use Rattle.explain_core.specs.Failing.{AreFailing}
use Rattle.explain_core.specs.Findings.{AreFindings}
use Rattle.explain_core.specs.inner.Directions.{directed}
use Rattle.explain_core.proofs.findings.findings.Given as goal

-- The findings are those of the flows so far, and all trials have the flows of the set.
abbrev pub invariant-loop-flow : goal.invariant-loop-flow
invariant-loop-flow g l = record {
  walk : l.yielded ++ l.flow-iterator ≡ l.all.flows;
  tried : AreTried g.I.Stepwise.fits g.I.Tried.Trial.tried l.invs l.trials.items l.set.flows;
  found : AreFindings (λ f. AreFailing (g.C.Choice.chosen l.choice) g.I.Invariant.holds_on l.invs (with_flow l.set.flows (directed l.direction f))) (without l.yielded l.others.flows) l.found.items;
}
