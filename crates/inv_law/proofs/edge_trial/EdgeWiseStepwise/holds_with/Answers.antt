use Rattle.inv_law.specs.laws.RuleLaws.{AllFlowsPass-with_flow}
use Rattle.inv_law.proofs.edge_trial.EdgeWiseStepwise.holds_with.Goals as goal

pub returns-clause-answer : goal.returns-clause-answer
returns-clause-answer g c =
    let law =
    AllFlowsPass-with_flow (g.R.EdgeRule.passes_from c.args.self.now) c.args.tried.now.flows c.args.f c.requires.held in
    (λ yes. law.0 (c.admits.ensures.0 yes), λ all. c.admits.ensures.1 (law.1 all))
