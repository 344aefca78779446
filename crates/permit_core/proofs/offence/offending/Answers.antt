use Rattle.std.proofs.Common.{◌≡◌, sym, ◌∙◌, ap, subst}
use Rattle.std.proofs.lemmas.Bool.{both_ways}
use Rattle.flow_set.specs.FlowSet.{SetOfFlows, without}
use Rattle.flow_set.specs.Conditions.{IsMinimalOffending}
use Rattle.permit_core.proofs.FirstLaws.{first_offending}
use Rattle.permit_core.proofs.offence.offending.Goals as goal

pub returns-clause-minimal : goal.returns-clause-minimal
returns-clause-minimal g c =
    let Holds = g.I.Invariant.holds_on c.args.inv.now in
    let rest : c.take_out.new.set.flows ≡ without c.args.e.now.flows c.in_ok-kept.kept.flows =
    ap (λ (s : SetOfFlows). s.flows) c.take_out.ensures
    ∙ ap (λ (s : SetOfFlows). without s.flows c.in_ok-kept.kept.flows) c.in_ok-rest.ensures.same in
    subst (IsMinimalOffending Holds c.args.e.now.flows) (sym rest)
    (first_offending Holds c.args.e.now.flows c.in_ok-kept.kept.flows c.in_ok-rest.ensures.set.ordered c.in_ok-kept.ensures.first
    (λ holds. both_ways c.in_ok-holds.field-0 c.if-branch.false (c.in_ok-holds.ensures.1 holds)))
