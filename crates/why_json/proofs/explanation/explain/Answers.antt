use Rattle.std.proofs.Common.{length, subst}
use Rattle.std.proofs.lemmas.Result.{IfOk-weaker}
use Rattle.flow_set.specs.inner.FlowSetView.{IsFlowSet}
use Rattle.why_json.specs.Explanations.{HasReasons, IsExplanation, ReasonsHaveFlow}
use Rattle.why_json.specs.WhyJson.{why_json}
use Rattle.why_json.specs.OneAnswer.{IsOnlyWhyText}
use Rattle.why_json.specs.inner.Fitting.{FitsExplanation}
use Rattle.why_json.proofs.ExplanationLaws.{explained_reasons, fits_explanation, reasons_have_flow}
use Rattle.why_json.proofs.OneAnswerLaws.{why_is_one}
use Rattle.why_json.proofs.explanation.explain.Goals as goal

pub returns-clause-fits : goal.returns-clause-fits
returns-clause-fits c =
    let d = c.args.description.now in
    let asked : IsFlowSet (length d.hosts) d.asked.flows = subst (λ n. IsFlowSet n d.asked.flows) c.asked.ensures.size c.asked.ensures.set in
    IfOk-weaker c.explanation_of.result (IsExplanation d c.args.policy.now c.args.flow) (FitsExplanation d)
    (λ x is. fits_explanation d c.args.policy.now c.args.flow x asked c.requires.policy c.requires.flow is)
    c.explanation_of.ensures

pub returns-clause-reasons : goal.returns-clause-reasons
returns-clause-reasons c =
    let d = c.args.description.now in
    IfOk-weaker c.explanation_of.result (IsExplanation d c.args.policy.now c.args.flow) (HasReasons d)
    (λ x is. explained_reasons d c.args.policy.now c.args.flow x c.requires.policy is)
    c.explanation_of.ensures

pub returns-clause-flow : goal.returns-clause-flow
returns-clause-flow c =
    let d = c.args.description.now in
    let asked : IsFlowSet (length d.hosts) d.asked.flows = subst (λ n. IsFlowSet n d.asked.flows) c.asked.ensures.size c.asked.ensures.set in
    IfOk-weaker c.explanation_of.result (IsExplanation d c.args.policy.now c.args.flow) ReasonsHaveFlow
    (λ x is. reasons_have_flow d c.args.policy.now c.args.flow x c.invariants.ensures.sizes asked c.requires.policy is)
    c.explanation_of.ensures

pub returns-clause-one : goal.returns-clause-one
returns-clause-one c =
    let d = c.args.description.now in
    IfOk-weaker c.explanation_of.result (IsExplanation d c.args.policy.now c.args.flow) (λ x. IsOnlyWhyText d c.args.policy.now c.args.flow (why_json d x))
    (λ x is y other. why_is_one d c.args.policy.now c.args.flow y x other is)
    c.explanation_of.ensures
