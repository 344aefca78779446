use Rattle.std.proofs.Common.{◌≡◌, ℕ, List, refl, sym, ◌∙◌, ap, subst}
use Rattle.std.specs.Prelude.{IsFalse}
use Rattle.permit_core.specs.inner.Grown.{IsExtended}
use Rattle.flow_set.specs.declared.flow.Flow.{Flow}
use Rattle.flow_set.specs.Flow.{reverse_of}
use Rattle.flow_set.specs.FlowSet.{has, with_back}
use Rattle.flow_set.specs.inner.FlowSetView.{IsFlowSet}
use Rattle.state_core.specs.Stateful.{StrictHold}
use Rattle.state_core.proofs.Refining.{answers-IsExtended, permitted_answer}
use Rattle.state_core.proofs.refinement.AnsweredCondition.meets.Goals as goal

-- The invariants already hold for the permitted flows with the answers so far, and a permitted answer adds nothing.
pub returns-then-has : goal.returns-then-has
returns-then-has g c =
    let p : List Flow = c.args.self.now.permitted.now.flows in
    let grown = c.requires.grown in
    let same = permitted_answer p grown.old c.args.added c.back-answer.result c.has.result c.requires.can.1.ordered c.back-answer.ensures c.has.ensures c.if-has.true in (
      λ _. subst (λ (e : List Flow). StrictHold g.I.Invariant.strategy_of g.I.Invariant.edge_mark g.I.Invariant.holds_on c.args.self.now.invs.now e) (sym (ap (with_back p) grown.grown ∙ same)) grown.held,
      λ _. refl,
    )

-- The tested set is the permitted flows with the answers so far and one more.
grown_by : (n m : ℕ) (Holds : List Flow → Type 0) (p fs all : List Flow) (f answer : Flow) → m ≡ n → all ≡ with_back p fs
    → answer ≡ reverse_of f → IsFlowSet n p → IsFalse (has p answer)
    → IsExtended n (λ s. Holds (with_back p s)) fs f → IsExtended m Holds all answer
grown_by n m Holds p fs all f answer size flows is set absent grown =
    subst (λ k. IsExtended k Holds all answer) (sym size)
    (subst (λ (zs : List Flow). IsExtended n Holds zs answer) (sym flows)
    (subst (λ (h : Flow). IsExtended n Holds (with_back p fs) h) (sym is)
    (answers-IsExtended n Holds p fs f set (subst (λ (h : Flow). IsFalse (has p h)) is absent) grown)))

pub chosen_still_hold-requires-clause-grown : goal.chosen_still_hold-requires-clause-grown
chosen_still_hold-requires-clause-grown g c =
    grown_by c.args.self.now.size c.in_ok-all.all.size
    (StrictHold g.I.Invariant.strategy_of g.I.Invariant.edge_mark g.I.Invariant.holds_on c.args.self.now.invs.now)
    c.args.self.now.permitted.now.flows c.args.set.now.flows c.in_ok-all.all.flows c.args.added c.back-answer.result
    (c.in_ok-all.ensures.size ∙ c.requires.can.0) c.in_ok-all.ensures.flows c.back-answer.ensures c.requires.can.1
    (sym c.has.ensures ∙ c.if-has.false) c.requires.grown
