use Rattle.std.proofs.Common.{◌≡◌, ap, sym, subst, ◌∙◌}
use Rattle.flow_set.specs.FlowSet.{with_flow}
use Rattle.flow_set.specs.inner.Steps.{UndoableFlows, stepped}
use Rattle.inv_law.specs.Rules.{AllFlowsPass}
use Rattle.inv_law.specs.laws.RuleLaws.{AllFlowsPass-with_flow}
use Rattle.inv_law.proofs.edge_trial.EdgeWiseStepwise.step.Goals as goal

pub returns-clause-answer : goal.returns-clause-answer
returns-clause-answer g c =
    let Passes = g.R.EdgeRule.passes_from c.args.self.now in
    let put : c.step.new.self.flows ≡ with_flow c.args.tried.now.flows c.args.f =
    ap (λ (t : UndoableFlows). t.flows) (c.step.ensures ∙ ap (λ t. stepped t c.args.f) c.tried.view_is) in
    let law = AllFlowsPass-with_flow Passes c.args.tried.now.flows c.args.f c.requires.held in (
      λ yes. subst (AllFlowsPass Passes) (sym put) (law.0 (c.admits.ensures.0 yes)),
      λ all. c.admits.ensures.1 (law.1 (subst (AllFlowsPass Passes) put all)),
    )
