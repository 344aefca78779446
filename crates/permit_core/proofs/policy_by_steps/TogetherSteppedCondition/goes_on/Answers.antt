use Rattle.std.proofs.Common.{not, true, refl}
use Rattle.permit_core.proofs.PolicyLaws.{marked_edge_wise}
use Rattle.permit_core.proofs.TriedLaws.{CanTake-chosen, ChosenHold-step, ChosenTried-step}
use Rattle.permit_core.proofs.policy_by_steps.TogetherSteppedCondition.goes_on.Goals as goal

pub step_chosen-requires-clause-can : goal.step_chosen-requires-clause-can
step_chosen-requires-clause-can g c =
    let inv = g.I.Invariant in
    CanTake-chosen c.args.self.now.size inv.size_of inv.holds_on g.I.Stepwise.fits g.I.Tried.Trial.tried
    (λ _. true) inv.edge_mark c.args.self.now.invs.now c.args.trials.now.items c.args._kept.now.flows c.args.f
    c.requires.come.0 c.requires.new.flow (λ k x below _. c.requires.held k x below) c.requires.come.1

pub returns-clause-answer : goal.returns-clause-answer
returns-clause-answer g c =
    let inv = g.I.Invariant in
    let n = c.args.self.now.size in
    let invs = c.args.self.now.invs.now in
    let law =
    ChosenHold-step n inv.holds_on g.I.Stepwise.fits g.I.Tried.Trial.tried
    (λ _. true) inv.edge_mark invs c.args.trials.now.items c.args._kept.now.flows c.args.f
    (marked_edge_wise n inv.size_of inv.edge_mark inv.holds_on invs g.met.I.Invariant.mark_is_right c.requires.come.0)
    c.requires.new.set c.requires.new.flow (λ k x below _. c.requires.held k x below) c.requires.come.1 in
    (λ yes k x below. law.0 (c.step_chosen.ensures.answer.0 yes) k x below refl, λ all. c.step_chosen.ensures.answer.1 (law.1 (λ k x below _. all k x below)))

pub returns-clause-come : goal.returns-clause-come
returns-clause-come g c = (
  c.requires.come.0,
  ChosenTried-step g.I.Stepwise.fits g.I.Tried.Trial.tried
      (λ inv. not (g.I.Invariant.edge_mark inv)) c.args.self.now.invs.now c.args.trials.now.items c.step_chosen.new.trials.items c.args._kept.now.flows c.args.f c.step_chosen.result
      c.requires.come.1 c.step_chosen.ensures.flows,
)
