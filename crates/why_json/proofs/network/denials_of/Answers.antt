use Rattle.std.proofs.Common.{◌≡◌, ◌∙◌, true, List, length, ap, subst}
use Rattle.std.specs.Prelude.{All, IfOk}
use Rattle.std.proofs.lemmas.Result.{IfOk-weaker}
use Rattle.flow_set.specs.EveryFlow.{every_flow}
use Rattle.flow_set.specs.declared.flow.Flow.{Flow}
use Rattle.flow_set.specs.FlowSet.{SetOfFlows, with_flow}
use Rattle.flow_set.specs.inner.FlowSetView.{IsFlowSet}
use Rattle.net_core.specs.Policies.{holds_on}
use Rattle.explain_core.specs.Findings.{AreDenials}
use Rattle.why_json.specs.inner.Fitting.{FitsPair}
use Rattle.why_json.proofs.ExplanationLaws.{pairs_of_network}
use Rattle.why_json.proofs.network.denials_of.Goals as goal

pub returns-clause-denials : goal.returns-clause-denials
returns-clause-denials c =
    let d = c.args.description.now in
    let p : List Flow = c.args.policy.now.permitted.flows in
    let made = c.denials.result in
    let size : c.size.result ≡ length d.hosts = c.size.ensures.size ∙ ap (λ (set : SetOfFlows). set.size) c.asked-asked.ensures.value ∙ c.asked-asked.ensures.size in
    let every : c.in_ok-every.every.flows ≡ every_flow (length d.hosts) = ap (λ (set : SetOfFlows). set.flows) c.in_ok-every.ensures.every ∙ ap every_flow size in
    subst (λ (fs : List Flow). IfOk made (λ found. AreDenials holds_on d.invariants fs p found.items)) every
    (subst (λ invs. IfOk made (λ found. AreDenials holds_on invs c.in_ok-every.every.flows p found.items)) c.invariants-invariants.ensures.value
    (subst (λ (x : SetOfFlows). IfOk made (λ found. AreDenials holds_on c.invariants-invariants.result.now c.in_ok-every.every.flows x.flows found.items)) c.permitted.ensures.value c.denials.ensures))

pub returns-clause-fit : goal.returns-clause-fit
returns-clause-fit c =
    let d = c.args.description.now in
    let p : List Flow = c.args.policy.now.permitted.flows in
    let made = c.denials.result in
    let size : c.size.result ≡ length d.hosts = c.size.ensures.size ∙ ap (λ (set : SetOfFlows). set.size) c.asked-asked.ensures.value ∙ c.asked-asked.ensures.size in
    let every : IsFlowSet (length d.hosts) c.in_ok-every.every.flows = subst (λ n. IsFlowSet n c.in_ok-every.every.flows) size c.in_ok-every.ensures.set in
    IfOk-weaker made (λ found. AreDenials holds_on d.invariants c.in_ok-every.every.flows p found.items) (λ found. All (FitsPair d c.args.policy.now) found.items)
    (λ found are. pairs_of_network d c.args.policy.now (λ _. true) (with_flow p) c.in_ok-every.every.flows found.items c.requires every are)
    (subst (λ invs. IfOk made (λ found. AreDenials holds_on invs c.in_ok-every.every.flows p found.items)) c.invariants-invariants.ensures.value
    (subst (λ (x : SetOfFlows). IfOk made (λ found. AreDenials holds_on c.invariants-invariants.result.now c.in_ok-every.every.flows x.flows found.items)) c.permitted.ensures.value c.denials.ensures))
