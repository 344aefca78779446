use Rattle.std.proofs.Common.{◌≡◌, ◌∙◌, ap, subst}
use Rattle.flow_set.specs.FlowSet.{SetOfFlows, with_flow}
use Rattle.permit_core.specs.Policy.{AllHold}
use Rattle.permit_core.proofs.PolicyLaws.{denied_fails}
use Rattle.permit_core.proofs.denial.blame.Goals as goal

-- Not all of them hold for the policy with a denied flow.
pub returns-clause-denied : goal.returns-clause-denied
returns-clause-denied g c denied =
    let Holds = AllHold g.I.Invariant.holds_on c.args.invs.now in
    let with : c.insert.new.self.flows ≡ with_flow c.args.p.now.flows c.args.f =
    ap (λ (s : SetOfFlows). s.flows) c.insert.ensures.set ∙ ap (λ (s : SetOfFlows). with_flow s.flows c.args.f) c.in_ok-with.ensures.same in
    absurd (denied_fails Holds c.args.p.now.flows c.args.f denied (subst Holds with (rw c.in-None.is at c.in_ok-number.ensures)))
