use Rattle.std.proofs.Common.{◌≡◌, List, ◌∙◌, ap, subst}
use Rattle.std.specs.Prelude.{IfOk}
use Rattle.flow_set.specs.FlowSet.{SetOfFlows, without}
use Rattle.flow_set.specs.declared.flow.Flow.{Flow}
use Rattle.flow_set.specs.laws.FlowLaws.{without_nothing}
use Rattle.explain_core.specs.Failing.{AreDenying}
use Rattle.explain_core.specs.Findings.{AreFindings}
use Rattle.explain_core.proofs.findings.denials.Goals as goal

pub returns : goal.returns
returns g c =
    let wanted : List Flow = c.args.wanted.now.flows in
    let all : without wanted c.in_ok-none.none.flows ≡ wanted = ap (λ (set : SetOfFlows). without wanted set.flows) c.in_ok-none.ensures ∙ without_nothing wanted in
    subst (λ (fs : List Flow). IfOk c.findings.result (λ found. AreFindings (AreDenying g.I.Invariant.holds_on c.args.invs.now c.args.permitted.now.flows) fs found.items))
    all c.findings.ensures
