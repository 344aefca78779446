use Rattle.std.proofs.Common.{◌≡◌, Bool, ◌&&◌, not, List, cond, ◌∙◌, ap, refl, sym, subst}
use Rattle.flow_set.specs.declared.flow.Flow.{Flow}
use Rattle.flow_set.specs.Flow.{IsFlow}
use Rattle.flow_set.specs.FlowSet.{with_flow, with_back}
use Rattle.flow_set.proofs.SubsetLaws.{IsFlow-reverse_of, IsFlowSet-with_back}
use Rattle.permit_core.specs.inner.Tried.{ChosenTried}
use Rattle.permit_core.specs.inner.Trials.{ChosenHold}
use Rattle.permit_core.proofs.PolicyLaws.{marked_edge_wise}
use Rattle.permit_core.proofs.TriedLaws.{CanTake-chosen, ChosenHold-step, ChosenTried-step}
use Rattle.state_core.specs.Stateful.{is_strict, StrictHold}
use Rattle.state_core.proofs.Refining.{answer_of_more, answers_after, permitted_answer}
use Rattle.state_core.proofs.refinement_by_steps.AnsweredSteppedCondition.goes_on.Goals as goal

-- An answer that is permitted adds nothing.
pub returns-then-has-clause-answer : goal.returns-then-has-clause-answer
returns-then-has-clause-answer g c =
    let inv = g.I.Invariant in
    let p : List Flow = c.args.self.now.permitted.now.flows in
    let same = permitted_answer p c.args._kept.now.flows c.args.f c.back-answer.result c.has.result c.requires.come.1.ordered c.back-answer.ensures c.has.ensures c.if-has.true in (
      λ _. subst (λ (e : List Flow). StrictHold inv.strategy_of inv.edge_mark inv.holds_on c.args.self.now.invs.now e) (sym same) c.requires.held,
      λ _. refl,
    )

pub returns-then-has-clause-come : goal.returns-then-has-clause-come
returns-then-has-clause-come g c =
    let inv = g.I.Invariant in
    let p : List Flow = c.args.self.now.permitted.now.flows in
    let same = permitted_answer p c.args._kept.now.flows c.args.f c.back-answer.result c.has.result c.requires.come.1.ordered c.back-answer.ensures c.has.ensures c.if-has.true in
    let chosen = λ (x : _). is_strict (inv.strategy_of x) (inv.edge_mark x) && not (inv.edge_mark x) in (
      c.requires.come.0,
      c.requires.come.1,
      c.requires.come.2,
      subst (ChosenTried g.I.Stepwise.fits g.I.Tried.Trial.tried chosen c.args.self.now.invs.now c.args.trials.now.items) (sym same) c.requires.come.3,
    )

pub step_chosen-requires-clause-can : goal.step_chosen-requires-clause-can
step_chosen-requires-clause-can g c =
    let inv = g.I.Invariant in
    let n = c.args.self.now.size in
    CanTake-chosen n inv.size_of inv.holds_on g.I.Stepwise.fits g.I.Tried.Trial.tried
    (λ x. is_strict (inv.strategy_of x) (inv.edge_mark x)) inv.edge_mark c.args.self.now.invs.now c.args.trials.now.items
    (with_back c.args.self.now.permitted.now.flows c.args._kept.now.flows) c.back-answer.result
    c.requires.come.2 (subst (IsFlow n) (sym c.back-answer.ensures) (IsFlow-reverse_of n c.args.f c.requires.new.flow)) c.requires.held c.requires.come.3

pub returns-clause-answer : goal.returns-clause-answer
returns-clause-answer g c =
    let inv = g.I.Invariant in
    let n = c.args.self.now.size in
    let strict = λ (x : _). is_strict (inv.strategy_of x) (inv.edge_mark x) in
    let invs = c.args.self.now.invs.now in
    let p : List Flow = c.args.self.now.permitted.now.flows in
    let kept : List Flow = c.args._kept.now.flows in
    let law =
    ChosenHold-step n inv.holds_on g.I.Stepwise.fits g.I.Tried.Trial.tried strict inv.edge_mark invs c.args.trials.now.items
    (with_back p kept) c.back-answer.result
    (marked_edge_wise n inv.size_of inv.edge_mark inv.holds_on invs g.met.I.Invariant.mark_is_right c.requires.come.2)
    (IsFlowSet-with_back n p kept c.requires.come.1 c.requires.new.set)
    (subst (IsFlow n) (sym c.back-answer.ensures) (IsFlow-reverse_of n c.args.f c.requires.new.flow)) c.requires.held c.requires.come.3 in
    let more : with_flow (with_back p kept) c.back-answer.result ≡ with_back p (with_flow kept c.args.f) = ap (λ (h : Flow). with_flow (with_back p kept) h) c.back-answer.ensures ∙ answer_of_more p kept c.args.f c.requires.come.1.ordered in (
      λ yes. subst (ChosenHold strict inv.holds_on invs) more (law.0 (c.step_chosen.ensures.answer.0 yes)),
      λ all. c.step_chosen.ensures.answer.1 (law.1 (subst (ChosenHold strict inv.holds_on invs) (sym more) all)),
    )

pub returns-clause-come : goal.returns-clause-come
returns-clause-come g c =
    let inv = g.I.Invariant in
    let chosen = λ (x : _). is_strict (inv.strategy_of x) (inv.edge_mark x) && not (inv.edge_mark x) in
    let invs = c.args.self.now.invs.now in
    let p : List Flow = c.args.self.now.permitted.now.flows in
    let kept : List Flow = c.args._kept.now.flows in
    let b : Bool = c.step_chosen.result in
    let more : cond b (with_flow (with_back p kept) c.back-answer.result) (with_back p kept) ≡ with_back p (cond b (with_flow kept c.args.f) kept) =
    ap (λ (h : Flow). cond b (with_flow (with_back p kept) h) (with_back p kept)) c.back-answer.ensures ∙ answers_after b p kept c.args.f c.requires.come.1.ordered in (
      c.requires.come.0,
      c.requires.come.1,
      c.requires.come.2,
      subst (ChosenTried g.I.Stepwise.fits g.I.Tried.Trial.tried chosen invs c.step_chosen.new.trials.items) more
          (ChosenTried-step g.I.Stepwise.fits g.I.Tried.Trial.tried chosen invs c.args.trials.now.items c.step_chosen.new.trials.items (with_back p kept) c.back-answer.result b
          c.requires.come.3 c.step_chosen.ensures.flows),
    )
