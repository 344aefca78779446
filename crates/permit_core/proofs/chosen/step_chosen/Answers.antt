use Rattle.std.proofs.Common.{refl}
use Rattle.std.proofs.lemmas.Bool.{both_ways, false≢true}
use Rattle.flow_set.specs.FlowSet.{with_flow}
use Rattle.permit_core.proofs.TriedLaws.{AllStep-then, CanTake-again}
use Rattle.permit_core.proofs.chosen.step_chosen.Goals as goal

pub returns-then-not-chosen_admit-clause-answer : goal.returns-then-not-chosen_admit-clause-answer
returns-then-not-chosen_admit-clause-answer g c = (
  λ impossible. absurd (false≢true impossible),
  λ both. absurd (both_ways _ c.if-not-chosen_admit.true (c.chosen_admit.ensures.1 both.0)),
)

pub returns-then-not-chosen_admit-clause-flows : goal.returns-then-not-chosen_admit-clause-flows
returns-then-not-chosen_admit-clause-flows g c = record {
  counted = refl;
  invariants = refl;
  fits = λ k t below. (c.requires.can k t below).fits;
  flows = λ k t below. refl;
}

pub returns-then-not-all_hold_with-clause-answer : goal.returns-then-not-all_hold_with-clause-answer
returns-then-not-all_hold_with-clause-answer g c = (
  λ impossible. absurd (false≢true impossible),
  λ both. absurd (both_ways _ c.if-not-all_hold_with.true (c.all_hold_with.ensures.answer.1 both.1)),
)

pub step_all-requires : goal.step_all-requires
step_all-requires g c =
    CanTake-again g.I.Invariant.size_of g.I.Invariant.holds_on g.I.Stepwise.fits g.I.Tried.Trial.tried c.args.f c.args.trials.now.items c.all_hold_with.new.trials.items
    c.all_hold_with.ensures.flows c.requires.can

pub returns-clause-answer : goal.returns-clause-answer
returns-clause-answer g c = (
  λ _. (c.chosen_admit.ensures.0 c.if-not-chosen_admit.false, c.all_hold_with.ensures.answer.0 c.if-not-all_hold_with.false),
  λ _. refl,
)

pub returns-clause-flows : goal.returns-clause-flows
returns-clause-flows g c =
    AllStep-then g.I.Stepwise.fits g.I.Tried.Trial.tried
    (λ fs. with_flow fs c.args.f) c.args.trials.now.items c.all_hold_with.new.trials.items c.step_all.new.trials.items
    c.all_hold_with.ensures.flows c.step_all.ensures
