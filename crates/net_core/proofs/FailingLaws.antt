-- Lemmas on the flows on which an invariant fails: one more or one fewer flow changes them only by that flow, and if there are none the
-- invariant holds.
use Rattle.std.proofs.Common.{◌≡◌, ℕ, inl, inr, Bool, true, false, not, ◌&&◌, ◌||◌, List, [], ◌∷◌, refl, sym, ◌∙◌, ap}
use Rattle.std.specs.Prelude.{◌↔◌, IsTrue, IsFalse}
use Rattle.std.proofs.Math.Bool.{and-true}
use Rattle.std.proofs.lemmas.Bool.{and_parts, both_ways, cases_Bool, not-false, or_left}
use Rattle.flow_set.specs.Conditions.{IsFirst}
use Rattle.flow_set.specs.inner.Downward.{IsEdgeWise}
use Rattle.flow_set.specs.Flow.{same_flow}
use Rattle.flow_set.specs.laws.FlowLaws.{IsOrdered-without, has-with_flow, has-without, has-without_flow, has_first, same_fact, same_flow_sym}
use Rattle.flow_set.specs.FlowSet.{has, with_flow, without}
use Rattle.flow_set.specs.inner.FlowSetView.{IsFlowSet, without_flow}
use Rattle.flow_set.specs.declared.flow.Flow.{Flow}
use Rattle.inv_any.specs.declared.any_inv.AnyInv.{AnyInv}
use Rattle.net_core.specs.Policies.{holds_on}
use Rattle.net_core.specs.inner.Asking.{flows_where}
use Rattle.net_core.specs.inner.FailingFlows.{FailsOn}
use Rattle.net_core.proofs.MarkedLaws.{absent_from, first_marked, within_both, within_less, within_more}

-- Another flow of the larger set is a flow of the smaller set.
old_one : (all : List Flow) (f g : Flow) → IsFalse (same_flow f g) → IsTrue (has (with_flow all f) g) → IsTrue (has all g)
old_one all f g other there = sym (ap (λ b. b || has all g) other) ∙ sym (has-with_flow all f g) ∙ there

-- One more flow, on which the invariant holds.
pub holds_more : (inv : AnyInv) (all failing : List Flow) (f : Flow) → IsFalse (has all f) → holds_on inv (f ∷ []) → FailsOn inv all failing
    → FailsOn inv (with_flow all f) failing
holds_more inv all failing f fresh holds is = record {
  within = within_more failing all f is.within;
  marked = λ g there. elim (cases_Bool (same_flow f g)) [
    | inl same ↦
        (λ none. same_fact (λ h. holds_on inv (h ∷ [])) f g same holds, λ one. same_fact (λ h. IsFalse (has failing h)) f g same (absent_from all failing f is.within fresh))
    | inr other ↦ is.marked g (old_one all f g other there)
  ];
}

-- A flow on which it fails.
fails_more : (inv : AnyInv) (all failing : List Flow) (f : Flow) → (holds_on inv (f ∷ []) → ⊥) → FailsOn inv all failing
    → FailsOn inv (with_flow all f) (with_flow failing f)
fails_more inv all failing f fails is = record {
  within = within_both failing all f is.within;
  marked = λ g there. elim (cases_Bool (same_flow f g)) [
    | inl same ↦ (
      λ none. absurd (both_ways _ none (has-with_flow failing f g ∙ or_left _ _ same)),
      λ one. absurd (fails (same_fact (λ h. holds_on inv (h ∷ [])) g f (sym (same_flow_sym f g) ∙ same) one)),
    )
    | inr other ↦
        let old = is.marked g (old_one all f g other there) in
        let same : has (with_flow failing f) g ≡ has failing g = has-with_flow failing f g ∙ ap (λ b. b || has failing g) other in
        (λ none. old.0 (sym same ∙ none), λ one. same ∙ old.1 one)
  ];
}

kept : (fs : List Flow) (f g : Flow) → IsTrue (not (same_flow f g)) → has (without_flow fs f) g ≡ has fs g
kept fs f g other = has-without_flow fs f g ∙ ap (λ b. has fs g && b) other ∙ and-true (has fs g)

-- One fewer flow.
fails_less : (inv : AnyInv) (all failing : List Flow) (f : Flow) → FailsOn inv all failing → FailsOn inv (without_flow all f) (without_flow failing f)
fails_less inv all failing f is = record {
  within = within_less failing all f is.within;
  marked = λ g there.
      let parts = and_parts _ _ (sym (has-without_flow all f g) ∙ there) in
      let old = is.marked g parts.0 in
      let same = kept failing f g parts.1 in
      (λ none. old.0 (sym same ∙ none), λ one. same ∙ old.1 one);
}

-- An added flow on which it fails, or a removed flow.
pub fails_where : (asked : Bool) (inv : AnyInv) (all failing : List Flow) (f : Flow) → (IsTrue asked → holds_on inv (f ∷ []) → ⊥) → FailsOn inv all failing
    → FailsOn inv (flows_where asked all f) (flows_where asked failing f)
fails_where true inv all failing f fails is = fails_more inv all failing f (fails refl) is
fails_where false inv all failing f fails is = fails_less inv all failing f is

nothing : (fs : List Flow) → ((f : Flow) → IsTrue (has fs f) → ⊥) → fs ≡ []
nothing [] none = refl
nothing (f ∷ fs) none = absurd (none f (has_first f fs))

-- An invariant holds if and only if it fails on no flow.
pub none_fails : (n : ℕ) (inv : AnyInv) (all failing : List Flow) → IsFlowSet n all → IsEdgeWise n (holds_on inv) → FailsOn inv all failing
    → (failing ≡ []) ↔ holds_on inv all
none_fails n inv all failing set edge_wise is = (
  λ none. (edge_wise all set).1 (λ f there. (is.marked f there).0 (ap (λ (fs : List Flow). has fs f) none)),
  λ holds. nothing failing (λ f there. both_ways _ ((is.marked f (is.within.within f there)).1 ((edge_wise all set).0 holds f (is.within.within f there))) there),
)

-- The flows outside the first subset on which it holds are exactly the flows on which it fails.
pub fails_outside : (n : ℕ) (inv : AnyInv) (all first : List Flow) → IsFlowSet n all → IsEdgeWise n (holds_on inv) → IsFirst (holds_on inv) all first
    → FailsOn inv all (without all first)
fails_outside n inv all first set edge_wise is =
    let marked = first_marked n (holds_on inv) all first set edge_wise is in
    record {
      within = record {
        ordered = IsOrdered-without all first set.ordered;
        within = λ f there. (and_parts _ _ (sym (has-without all first f) ∙ there)).0;
      };
      marked = λ f there. (
        λ none. (marked f there).0 (not-false (has first f) (sym (ap (λ b. b && not (has first f)) there) ∙ sym (has-without all first f) ∙ none)),
        λ one. has-without all first f ∙ ap (λ b. b && not (has first f)) there ∙ ap not ((marked f there).1 one),
      );
    }
