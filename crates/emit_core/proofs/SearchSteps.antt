-- Iteration over the flows of a set until a property fails for one.
use Rattle.std.proofs.Common.{◌≡◌, inl, inr, false, List, [], ◌∷◌, ◌++◌, refl, sym, ap, ◌∙◌, subst}
use Rattle.std.specs.Prelude.{IsTrue}
use Rattle.std.proofs.lemmas.Bool.{or_cases, both_ways}
use Rattle.flow_set.specs.declared.flow.Flow.{Flow}
use Rattle.flow_set.specs.Flow.{before, same_flow}
use Rattle.flow_set.specs.FlowSet.{has, IsOrdered}
use Rattle.flow_set.specs.laws.FlowLaws.{same_flow_self, before_self, before_not_back, front_before, has_nothing, has-append, same_fact}
use Rattle.flow_set.specs.laws.WalkLaws.{walk_next, walk_member}

-- The property holds for each of the flows.
abbrev pub HoldsOfEach : (Flow → Type 0) → List Flow → Type 0
HoldsOfEach Holds xs = (g : Flow) → IsTrue (has xs g) → Holds g

pub holds_of_none : (Holds : Flow → Type 0) → HoldsOfEach Holds []
holds_of_none Holds g there = has_nothing g there

pub holds_of_more : (Holds : Flow → Type 0) (xs : List Flow) (f : Flow) → HoldsOfEach Holds xs → Holds f → HoldsOfEach Holds (xs ++ f ∷ [])
holds_of_more Holds xs f earlier here g there = elim (or_cases (has xs g) (has (f ∷ []) g) (sym (has-append xs (f ∷ []) g) ∙ there)) [
  | inl before_it ↦ earlier g before_it
  | inr last ↦ elim (or_cases (same_flow f g) false last) [
    | inl same ↦ same_fact Holds f g same here
    | inr never ↦ has_nothing g never
  ]
]

-- So it holds for each flow of the whole set that is before the next one.
pub holds_before : (Holds : Flow → Type 0) (xs left rest whole : List Flow) (f : Flow) → IsOrdered whole → xs ++ left ≡ whole → left ≡ f ∷ rest
    → HoldsOfEach Holds xs → (g : Flow) → IsTrue (before g f) → IsTrue (has whole g) → Holds g
holds_before Holds xs left rest whole f ordered walk next each g earlier there =
    elim (or_cases (has xs g) (has (f ∷ rest) g) (sym (has-append xs (f ∷ rest) g) ∙ ap (λ (fs : List Flow). has fs g) split ∙ there)) [
      | inl before_it ↦ each g before_it
      | inr from_it ↦ elim (or_cases (same_flow f g) (has rest g) from_it) [
        | inl same ↦ absurd (both_ways _ (before_self f) (same_fact (λ h. IsTrue (before h f)) g f (same_back same) earlier))
        | inr later ↦ absurd (both_ways _ (before_not_back f g (behind later)) earlier)
      ]
    ]
  where
    split : xs ++ f ∷ rest ≡ whole
    split = ap (λ (fs : List Flow). xs ++ fs) (sym next) ∙ walk

    same_back : IsTrue (same_flow f g) → IsTrue (same_flow g f)
    same_back same = same_fact (λ h. IsTrue (same_flow h f)) f g same (same_flow_self f)

    behind : IsTrue (has rest g) → IsTrue (before f g)
    behind later =
        front_before (xs ++ f ∷ []) rest f g (subst IsOrdered (sym (walk_next xs left rest whole f walk next)) ordered)
        (walk_member xs (f ∷ []) [] (xs ++ f ∷ []) f refl refl) later
