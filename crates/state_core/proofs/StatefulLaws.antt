-- Lemmas on compliance: an invariant that holds for the permitted policy and, if strict, for the answers is complied
-- with.
use Rattle.std.proofs.Common.{ℕ, inl, inr, Bool, true, false, List, refl, sym, ◌∙◌}
use Rattle.std.specs.Prelude.{IsTrue, IsFalse}
use Rattle.std.proofs.lemmas.Bool.{both_ways, or_cases, false_from_ne_true}
use Rattle.flow_set.specs.declared.flow.Flow.{Flow}
use Rattle.flow_set.specs.Flow.{reverse_of}
use Rattle.flow_set.specs.FlowSet.{has, without, with_back}
use Rattle.flow_set.specs.inner.FlowSetView.{IsFlowSet}
use Rattle.flow_set.specs.Conditions.{IsMinimalOffending}
use Rattle.flow_set.specs.inner.Downward.{IsEdgeWise}
use Rattle.flow_set.specs.laws.FlowLaws.{has-with_back}
use Rattle.flow_set.proofs.SubsetLaws.{IsFlowSet-without, IsFlowSet-with_back}
use Rattle.flow_set.proofs.ConditionLaws.{edge_wise-with_flow}
use Rattle.inv_law.specs.declared.strategy.Strategy.{Strategy}
use Rattle.inv_law.specs.declared.strategy.Strategy.TheVariants.{Access, Information}
use Rattle.state_core.specs.Stateful.{is_strict, AreAnswers, Complies}

-- A flow that violates an edge-wise invariant which holds for the policy is an answer.
only_answers : (n : ℕ) (Holds : List Flow → Type 0) (p s : List Flow) → IsFlowSet n p → IsFlowSet n s → IsEdgeWise n Holds → Holds p
    → (f : List Flow) → IsMinimalOffending Holds (with_back p s) f → AreAnswers p s f
only_answers n Holds p s p_set s_set edge_wise holds f offends g there =
    let all : List Flow = with_back p s in
    let set : IsFlowSet n all = IsFlowSet-with_back n p s p_set s_set in
    let in_all : IsTrue (has all g) = offends.within.within g there in
    let not_in_p : IsFalse (has p g) = false_from_ne_true _ (λ in_p.
    offends.minimal g there ((edge_wise-with_flow n Holds (without all f) g edge_wise (IsFlowSet-without n all f set) (set.flows g in_all) offends.holds_without).0 ((edge_wise p p_set).0 holds g in_p))) in (
      elim (or_cases (has p g) (has s (reverse_of g)) (sym (has-with_back p s g) ∙ in_all)) [
        | inl in_p ↦ absurd (both_ways _ not_in_p in_p)
        | inr answers ↦ answers
      ],
      not_in_p,
    )

-- A policy complies with an invariant that holds for it, and for the answers too if the invariant is strict.
pub Complies-from_strict : (n : ℕ) (strategy : Strategy) (edge_wise : Bool) (Holds : List Flow → Type 0) (p s : List Flow)
    → IsFlowSet n p → IsFlowSet n s → (IsTrue edge_wise → IsEdgeWise n Holds) → Holds p
    → (IsTrue (is_strict strategy edge_wise) → Holds (with_back p s)) → Complies strategy Holds p s
Complies-from_strict n Information edge_wise Holds p s p_set s_set right holds strict = strict refl
Complies-from_strict n Access true Holds p s p_set s_set right holds strict = only_answers n Holds p s p_set s_set (right refl) holds
Complies-from_strict n Access false Holds p s p_set s_set right holds strict = λ f offends. absurd (offends.fails (strict refl))
