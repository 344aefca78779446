use Rattle.std.proofs.Common.{◌≡◌, sym, ◌∙◌, ap, subst, refl}
use Rattle.std.proofs.lemmas.Bool.{both_ways, false≢true}
use Rattle.flow_set.specs.FlowSet.{SetOfFlows, without}
use Rattle.flow_set.specs.Conditions.{IsMinimalOffending}
use Rattle.permit_core.proofs.FirstLaws.{first_offending}
use Rattle.permit_core.proofs.Turning.{leaves_nothing, nothing_left}
use Rattle.permit_core.proofs.offence_by_steps.offending_by_steps.Goals as goal

pub returns-then-is_empty-clause-none : goal.returns-then-is_empty-clause-none
returns-then-is_empty-clause-none g c =
    let Holds = g.I.Invariant.holds_on c.args.inv.now in
    let rest : c.turn_out.new.set.flows ≡ without c.args.e.now.flows c.in_ok-flows.flows.flows =
    ap (λ (s : SetOfFlows). s.flows) c.turn_out.ensures in
    (λ _. nothing_left Holds c.args.e.now.flows c.in_ok-flows.flows.flows c.size.ensures.set.ordered c.in_ok-flows.ensures.first (sym rest ∙ c.is_empty.ensures.0 c.if-is_empty.true), λ _. refl)

pub returns-clause-none : goal.returns-clause-none
returns-clause-none g c =
    let Holds = g.I.Invariant.holds_on c.args.inv.now in
    let rest : c.turn_out.new.set.flows ≡ without c.args.e.now.flows c.in_ok-flows.flows.flows = ap (λ (s : SetOfFlows). s.flows) c.turn_out.ensures in (
      λ impossible. absurd (false≢true (sym impossible)),
      λ holds. absurd (both_ways _ c.if-is_empty.false (c.is_empty.ensures.1 (rest ∙ leaves_nothing Holds c.args.e.now.flows c.in_ok-flows.flows.flows c.size.ensures.set.ordered c.in_ok-flows.ensures.first holds))),
    )

pub returns-clause-minimal : goal.returns-clause-minimal
returns-clause-minimal g c =
    let Holds = g.I.Invariant.holds_on c.args.inv.now in
    let rest : c.turn_out.new.set.flows ≡ without c.args.e.now.flows c.in_ok-flows.flows.flows =
    ap (λ (s : SetOfFlows). s.flows) c.turn_out.ensures in
    subst (IsMinimalOffending Holds c.args.e.now.flows) (sym rest)
    (first_offending Holds c.args.e.now.flows c.in_ok-flows.flows.flows c.size.ensures.set.ordered c.in_ok-flows.ensures.first
    (λ holds. both_ways _ c.if-is_empty.false (c.is_empty.ensures.1 (rest ∙ leaves_nothing Holds c.args.e.now.flows c.in_ok-flows.flows.flows c.size.ensures.set.ordered c.in_ok-flows.ensures.first holds))))
