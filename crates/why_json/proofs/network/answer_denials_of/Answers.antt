use Rattle.std.proofs.Common.{List, length, subst}
use Rattle.std.specs.Prelude.{All, IfOk}
use Rattle.std.proofs.lemmas.Result.{IfOk-weaker}
use Rattle.flow_set.specs.declared.flow.Flow.{Flow}
use Rattle.flow_set.specs.Flow.{reverse_of}
use Rattle.flow_set.specs.FlowSet.{SetOfFlows, with_back, with_flow, without}
use Rattle.flow_set.specs.inner.FlowSetView.{IsFlowSet}
use Rattle.flow_set.proofs.SubsetLaws.{IsFlowSet-subset, IsFlowSet-without}
use Rattle.net_core.specs.Policies.{edge_mark, holds_on, strategy_of}
use Rattle.explain_core.specs.Findings.{AreAnswerDenials}
use Rattle.state_core.specs.Stateful.{is_strict}
use Rattle.why_json.specs.inner.Fitting.{FitsFinding}
use Rattle.why_json.proofs.ExplanationLaws.{findings_of_network}
use Rattle.why_json.proofs.network.answer_denials_of.Goals as goal

pub returns-clause-fit : goal.returns-clause-fit
returns-clause-fit c =
    let d = c.args.description.now in
    let n = length d.hosts in
    let p : List Flow = c.args.policy.now.permitted.flows in
    let s : List Flow = c.args.policy.now.stateful.flows in
    let made = c.answer_denials.result in
    let asked : IsFlowSet n d.asked.flows = subst (λ m. IsFlowSet m d.asked.flows) c.asked-asked.ensures.size c.asked-asked.ensures.set in
    let permitted : IsFlowSet n p = IsFlowSet-subset n p d.asked.flows asked c.requires.permitted.within in
    let are : IfOk made (λ found. AreAnswerDenials strategy_of edge_mark holds_on d.invariants p s found.items) =
    subst (λ invs. IfOk made (λ found. AreAnswerDenials strategy_of edge_mark holds_on invs p s found.items)) c.invariants-invariants.ensures.value
    (subst (λ (x : SetOfFlows). IfOk made (λ found. AreAnswerDenials strategy_of edge_mark holds_on c.invariants-invariants.result.now x.flows s found.items)) c.permitted.ensures.value
    (subst (λ (x : SetOfFlows). IfOk made (λ found. AreAnswerDenials strategy_of edge_mark holds_on c.invariants-invariants.result.now c.permitted.result.now.flows x.flows found.items)) c.stateful.ensures.value c.answer_denials.ensures)) in
    IfOk-weaker made (λ found. AreAnswerDenials strategy_of edge_mark holds_on d.invariants p s found.items) (λ found. All (FitsFinding d) found.items)
    (λ found are. findings_of_network d (λ inv. is_strict (strategy_of inv) (edge_mark inv)) (λ f. with_flow (with_back p s) (reverse_of f)) (without p s) found.items (IsFlowSet-without n p s permitted) are)
    are
