-- Turning a set of flows, a subset of another set, into its complement flow by flow.
use Rattle.std.proofs.Common.{◌≡◌, inl, inr, Bool, true, false, not, ◌&&◌, ◌||◌, List, [], ◌∷◌, ◌++◌, refl, sym, ◌∙◌, ap, subst}
use Rattle.std.proofs.Math.Bool.{and-true, and-false}
use Rattle.std.specs.Prelude.{IsTrue, IsFalse}
use Rattle.std.proofs.lemmas.Bool.{both_ways, cases_Bool, false_from_ne_true, false≢true, not_from_true, and_from, not_from_false}
use Rattle.flow_set.specs.declared.flow.Flow.{Flow}
use Rattle.flow_set.specs.Flow.{same_flow}
use Rattle.flow_set.specs.FlowSet.{has, IsOrdered, IsSubset, with_flow, without}
use Rattle.flow_set.specs.inner.FlowSetView.{without_flow}
use Rattle.flow_set.specs.Conditions.{IsFirst}
use Rattle.flow_set.specs.laws.FlowLaws.{before_self, has-append, has_first, has-with_flow, has-without_flow, has-without, flows_ext, filter_nothing, front_before, same_test, IsOrdered-without}
use Rattle.flow_set.proofs.SubsetLaws.{subset_both}
use Rattle.permit_core.proofs.FirstLaws.{first_whole}

-- Whether a flow is in the set during the complementation, by whether the pass has reached it and whether it was in the old set.
abbrev pub turned : Bool → Bool → Bool
turned true was = not was
turned false was = was

-- The pass has not visited its next flow before.
pub is_next : (xs rest whole : List Flow) (f : Flow) → IsOrdered whole → xs ++ f ∷ rest ≡ whole → IsFalse (has xs f)
is_next xs rest whole f ordered walk =
    false_from_ne_true _
    (λ there. both_ways _ (before_self f) (front_before xs (f ∷ rest) f f (subst IsOrdered (sym walk) ordered) there (has_first f rest)))

out_step : (same seen was is : Bool) → (IsTrue same → seen ≡ false) → is ≡ turned seen was → (IsTrue same → IsTrue was)
    → (is && not same) ≡ turned (seen || (same || false)) was
out_step true true was is fresh now there = absurd (false≢true (sym (fresh refl)))
out_step true false true is fresh now there = and-false is
out_step true false false is fresh now there = absurd (false≢true (there refl))
out_step false true was is fresh now there = and-true is ∙ now
out_step false false was is fresh now there = and-true is ∙ now

in_step : (same seen was is : Bool) → (IsTrue same → seen ≡ false) → is ≡ turned seen was → (IsTrue same → IsFalse was)
    → (same || (is && not same)) ≡ turned (seen || (same || false)) was
in_step true true was is fresh now absent = absurd (false≢true (sym (fresh refl)))
in_step true false true is fresh now absent = absurd (false≢true (sym (absent refl)))
in_step true false false is fresh now absent = refl
in_step false true was is fresh now absent = and-true is ∙ now
in_step false false was is fresh now absent = and-true is ∙ now

-- The next flow is in the current set if and only if it was in the old set.
was_as_now : (set xs was : List Flow) (f : Flow) → IsFalse (has xs f) → ((g : Flow) → has set g ≡ turned (has xs g) (has was g))
    → has was f ≡ has set f
was_as_now set xs was f new now = sym (now f ∙ ap (λ b. turned b (has was f)) new)

pub turned_out : (set xs was : List Flow) (f g : Flow) → IsFalse (has xs f)
    → ((g : Flow) → has set g ≡ turned (has xs g) (has was g)) → IsTrue (has set f)
    → has (without_flow set f) g ≡ turned (has (xs ++ f ∷ []) g) (has was g)
turned_out set xs was f g new now there =
    has-without_flow set f g
    ∙ out_step (same_flow f g) (has xs g) (has was g) (has set g) (λ same. sym (same_test (has xs) f g same) ∙ new) (now g)
    (λ same. sym (same_test (has was) f g same) ∙ was_as_now set xs was f new now ∙ there)
    ∙ sym (ap (λ b. turned b (has was g)) (has-append xs (f ∷ []) g))

pub turned_in : (set xs was : List Flow) (f g : Flow) → IsFalse (has xs f)
    → ((g : Flow) → has set g ≡ turned (has xs g) (has was g)) → IsFalse (has set f)
    → has (with_flow (without_flow set f) f) g ≡ turned (has (xs ++ f ∷ []) g) (has was g)
turned_in set xs was f g new now absent =
    has-with_flow (without_flow set f) f g
    ∙ ap (λ b. same_flow f g || b) (has-without_flow set f g)
    ∙ in_step (same_flow f g) (has xs g) (has was g) (has set g) (λ same. sym (same_test (has xs) f g same) ∙ new) (now g)
    (λ same. sym (same_test (has was) f g same) ∙ was_as_now set xs was f new now ∙ absent)
    ∙ sym (ap (λ b. turned b (has was g)) (has-append xs (f ∷ []) g))

turned_all : (all was : Bool) → (IsTrue was → IsTrue all) → turned all was ≡ (all && not was)
turned_all true was within = refl
turned_all false true within = absurd (false≢true (within refl))
turned_all false false within = refl

-- After all flows the set is the complement.
pub turned_whole : (set xs all was : List Flow) → IsOrdered set → IsOrdered all → IsSubset was all → xs ≡ all
    → ((g : Flow) → has set g ≡ turned (has xs g) (has was g)) → set ≡ without all was
turned_whole set xs all was ordered ordered_all within walk now =
    flows_ext set (without all was) ordered (IsOrdered-without all was ordered_all)
    (λ g. now g ∙ ap (λ zs. turned (has zs g) (has was g)) walk ∙ turned_all (has all g) (has was g) (within.within g) ∙ sym (has-without all was g))

-- ---- the flows that a first subset omits

-- It omits nothing if the condition holds for the whole set.
pub leaves_nothing : (Holds : List Flow → Type 0) (e kept : List Flow) → IsOrdered e → IsFirst Holds e kept → Holds e → without e kept ≡ []
leaves_nothing Holds e kept ordered first holds =
    filter_nothing (λ f. not (has kept f)) e
    (λ f there. not_from_true _ (subst (λ (zs : List Flow). IsTrue (has zs f)) (sym (first_whole Holds e kept ordered first holds)) there))

-- And only then.
pub nothing_left : (Holds : List Flow → Type 0) (e kept : List Flow) → IsOrdered e → IsFirst Holds e kept → without e kept ≡ [] → Holds e
nothing_left Holds e kept ordered first nothing =
    let whole : IsSubset e kept = record {
      ordered = ordered;
      within = λ f there. elim (cases_Bool (has kept f)) [
        | inl is ↦ is
        | inr absent ↦ absurd (false≢true (ap (λ (zs : List Flow). has zs f) (sym nothing) ∙ has-without e kept f ∙ and_from _ _ there (not_from_false _ absent)))
      ];
    } in
    subst Holds (subset_both kept e first.within whole) first.holds
