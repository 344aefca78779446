-- Lemmas for refinement: the answers that add nothing, the effect of one more answer, downward closure of the condition
-- of stateful flows, and compliance of the result.
use Rattle.std.proofs.Common.{◌≡◌, ℕ, Bool, true, false, ◌||◌, cond, List, Result, Ok, Err, get_or, refl, sym, ◌∙◌, ap, subst}
use Rattle.std.specs.Prelude.{IsTrue, IsFalse, All, IfOk}
use Rattle.std.proofs.lemmas.Bool.{or_from}
use Rattle.flow_set.specs.declared.flow.Flow.{Flow}
use Rattle.flow_set.specs.Flow.{same_flow, reverse_of}
use Rattle.permit_core.specs.inner.Grown.{IsExtended}
use Rattle.flow_set.specs.FlowSet.{SetOfFlows, has, IsOrdered, with_flow, with_back}
use Rattle.flow_set.specs.inner.FlowSetView.{IsFlowSet}
use Rattle.flow_set.specs.Conditions.{IsFirst}
use Rattle.flow_set.specs.inner.Downward.{IsDownwardClosed, IsEdgeWise}
use Rattle.flow_set.specs.laws.FlowLaws.{same_fact, same_flow_back, has-with_flow, has-with_back, flows_ext, IsOrdered-with_flow, IsOrdered-with_back}
use Rattle.flow_set.proofs.SubsetLaws.{IsFlow-reverse_of, IsFlowSet-subset, IsFlowSet-with_back}
use Rattle.flow_set.proofs.ConditionLaws.{IsDownwardClosed-with_back}
use Rattle.inv_law.specs.declared.strategy.Strategy.{Strategy}
use Rattle.state_core.specs.Stateful.{StrictHold, CompliesWithEach}
use Rattle.state_core.proofs.StatefulLaws.{Complies-from_strict}

-- An answer that is itself a flow of the policy, by the test, adds nothing.
pub permitted_answer : (p s : List Flow) (f answer : Flow) (test : Bool) → IsOrdered p → answer ≡ reverse_of f → test ≡ has p answer → IsTrue test
    → with_back p (with_flow s f) ≡ with_back p s
permitted_answer p s f answer test ordered is tells passes =
    let there : IsTrue (has p (reverse_of f)) = subst (λ (h : Flow). IsTrue (has p h)) is (sym tells ∙ passes) in
    flows_ext (with_back p (with_flow s f)) (with_back p s) (IsOrdered-with_back p (with_flow s f) ordered)
    (IsOrdered-with_back p s ordered)
    (λ g.
    has-with_back p (with_flow s f) g
    ∙ ap (λ b. has p g || b) (has-with_flow s f (reverse_of g))
    ∙ nothing_more (has p g) (same_flow f (reverse_of g)) (has s (reverse_of g))
    (λ same. same_fact (λ h. IsTrue (has p h)) (reverse_of f) g (same_flow_back f g ∙ same) there)
    ∙ sym (has-with_back p s g))
  where
    nothing_more : (a b c : Bool) → (IsTrue b → IsTrue a) → (a || (b || c)) ≡ (a || c)
    nothing_more a true c h = rw (h refl) refl
    nothing_more a false c h = refl

swap : (a b c : Bool) → (a || (b || c)) ≡ (b || (a || c))
swap true true c = refl
swap true false c = refl
swap false b c = refl

-- The answer of one more flow is one more flow.
pub answer_of_more : (p s : List Flow) (f : Flow) → IsOrdered p → with_flow (with_back p s) (reverse_of f) ≡ with_back p (with_flow s f)
answer_of_more p s f ordered =
    flows_ext (with_flow (with_back p s) (reverse_of f)) (with_back p (with_flow s f))
    (IsOrdered-with_flow (with_back p s) (reverse_of f) (IsOrdered-with_back p s ordered))
    (IsOrdered-with_back p (with_flow s f) ordered)
    (λ g.
    has-with_flow (with_back p s) (reverse_of f) g
    ∙ (λ i. same_flow_back f g i || has-with_back p s g i)
    ∙ swap (same_flow f (reverse_of g)) (has p g) (has s (reverse_of g))
    ∙ sym (has-with_back p (with_flow s f) g ∙ ap (λ b. has p g || b) (has-with_flow s f (reverse_of g))))

-- The same for a flow that is added or not.
pub answers_after : (taken : Bool) (p s : List Flow) (f : Flow) → IsOrdered p
    → cond taken (with_flow (with_back p s) (reverse_of f)) (with_back p s) ≡ with_back p (cond taken (with_flow s f) s)
answers_after true p s f ordered = answer_of_more p s f ordered
answers_after false p s f ordered = refl

-- If the condition is tested with one more flow, its answer is one more flow of the policy with answers.
pub answers-IsExtended : (n : ℕ) (Holds : List Flow → Type 0) (p fs : List Flow) (f : Flow) → IsFlowSet n p → IsFalse (has p (reverse_of f))
    → IsExtended n (λ s. Holds (with_back p s)) fs f → IsExtended n Holds (with_back p fs) (reverse_of f)
answers-IsExtended n Holds p fs f set absent grown = record {
  old = with_back p grown.old;
  set = IsFlowSet-with_back n p grown.old set grown.set;
  held = grown.held;
  flow = IsFlow-reverse_of n f grown.flow;
  absent = has-with_back p grown.old (reverse_of f) ∙ or_from _ _ absent grown.absent;
  grown = ap (with_back p) grown.grown ∙ sym (answer_of_more p grown.old f set.ordered);
}

pub StrictHold-downward : {X : Type 0} (n : ℕ) (strategy_of : X → Strategy) (edge_mark : X → Bool) (HoldsOn : X → List Flow → Type 0) (invs : List X) (p : List Flow)
    → IsFlowSet n p → All (λ inv. IsDownwardClosed n (HoldsOn inv)) invs
    → IsDownwardClosed n (λ s. StrictHold strategy_of edge_mark HoldsOn invs (with_back p s))
StrictHold-downward n strategy_of edge_mark HoldsOn invs p within downward e s set sub hold =
    λ k d below strict. IsDownwardClosed-with_back n (HoldsOn _) p within (downward k d below) e s set sub (hold k d below strict)

-- The result complies, since it is found with the strict invariants.
pub complies_found : {X E : Type 0} (n : ℕ) (strategy_of : X → Strategy) (edge_mark : X → Bool) (HoldsOn : X → List Flow → Type 0) (invs : List X) (p : List Flow) (found : Result SetOfFlows E)
    → IsFlowSet n p
    → All (λ inv. IsTrue (edge_mark inv) → IsEdgeWise n (HoldsOn inv)) invs → All (λ inv. HoldsOn inv p) invs
    → IfOk found (λ s. IsFirst (λ answered. StrictHold strategy_of edge_mark HoldsOn invs (with_back p answered)) p s.flows) → IfOk found (λ s. CompliesWithEach strategy_of HoldsOn invs p s.flows)
complies_found n strategy_of edge_mark HoldsOn invs p (Ok s) set right hold first = record {
  within = first.within;
  each = λ k d below.
      let inv = get_or invs k d in
      Complies-from_strict n (strategy_of inv) (edge_mark inv) (HoldsOn inv) p s.flows set (IsFlowSet-subset n s.flows p set first.within) (right k d below) (hold k d below) (first.holds k d below);
}
complies_found n strategy_of edge_mark HoldsOn invs p (Err e) set right hold first = first
