-- Lemmas on flows that are decided individually: the first subset of an edge-wise condition contains the flows that pass, and one more or
-- one fewer flow changes it only by that flow.
use Rattle.std.proofs.Common.{◌≡◌, ℕ, ◌⊎◌, inl, inr, Bool, true, false, ◌||◌, List, [], ◌∷◌, refl, sym, ◌∙◌, ap}
use Rattle.std.specs.Prelude.{IsTrue, IsFalse}
use Rattle.std.proofs.lemmas.Bool.{both_ways, false≢true, and_parts, and_from, or_cases, or_left, or_right, cases_Bool}
use Rattle.flow_set.specs.declared.flow.Flow.{Flow}
use Rattle.flow_set.specs.Flow.{before, same_flow}
use Rattle.flow_set.specs.FlowSet.{has, IsOrdered, IsSubset, with_flow}
use Rattle.flow_set.specs.inner.FlowSetView.{IsFlowSet, without_flow}
use Rattle.flow_set.specs.Conditions.{PrecedesAtFirstDifference, IsFirst}
use Rattle.flow_set.specs.inner.Downward.{IsEdgeWise}
use Rattle.flow_set.specs.laws.FlowLaws.{before_trans, before_self, has_nothing, has_first, has-with_flow, has-without_flow, same_fact, same_flow_sym, flows_ext, IsOrdered-with_flow, IsOrdered-without_flow, after_not_same}
use Rattle.flow_set.proofs.SubsetLaws.{IsFlowSet-subset}
use Rattle.permit_core.proofs.FirstLaws.{first_greatest}
use Rattle.net_core.specs.inner.EdgePolicies.{AreMarked}

-- ---- the first subset

-- The first flow of xs that is not in ys, if there is one.
abbrev Lacks : (xs ys : List Flow) → Type 0
Lacks xs ys = (f : Flow) × IsTrue (has xs f) × IsFalse (has ys f) × ((g : Flow) → IsTrue (has xs g) → IsTrue (before g f) → IsTrue (has ys g))

by_place : (x : Flow) (xs ys : List Flow) (f : Flow) → IsTrue (has (x ∷ xs) f) → IsTrue (has ys x) → (IsTrue (has xs f) → IsTrue (has ys f)) → IsTrue (has ys f)
by_place x xs ys f there here later = elim (or_cases (same_flow x f) (has xs f) there) [
  | inl same ↦ same_fact (λ g. IsTrue (has ys g)) x f same here
  | inr behind ↦ later behind
]

none_earlier : (x : Flow) (xs : List Flow) (g : Flow) → IsOrdered (x ∷ xs) → IsTrue (has (x ∷ xs) g) → IsTrue (before g x) → ⊥
none_earlier x xs g o there earlier = elim (or_cases (same_flow x g) (has xs g) there) [
  | inl same ↦ both_ways _ (after_not_same g x earlier) same
  | inr behind ↦ both_ways _ (before_self x) (before_trans x g x (o.0 g behind) earlier)
]

lacking : (xs ys : List Flow) → IsOrdered xs → ((f : Flow) → IsTrue (has xs f) → IsTrue (has ys f)) ⊎ Lacks xs ys
lacking [] ys o = inl (λ f there. has_nothing f there)
lacking (x ∷ xs) ys o = elim (cases_Bool (has ys x)) [
  | inl here ↦ elim (lacking xs ys o.1) [
    | inl all ↦ inl (λ f there. by_place x xs ys f there here (all f))
    | inr d ↦ inr (d.0, or_right _ _ d.1, d.2, λ g there earlier. by_place x xs ys g there here (λ behind. d.3 g behind earlier))
  ]
  | inr none ↦ inr (x, has_first x xs, none, λ g there earlier. absurd (none_earlier x xs g o there earlier))
]

same_test : (a b : Bool) → (IsTrue a → IsTrue b) → (IsTrue b → IsTrue a) → a ≡ b
same_test true b f g = sym (f refl)
same_test false true f g = g refl
same_test false false f g = refl

-- A set compared with one of its subsets.
differs_or_same : (xs ys : List Flow) → IsOrdered xs → IsSubset ys xs → (ys ≡ xs) ⊎ PrecedesAtFirstDifference xs ys
differs_or_same xs ys o sub = elim (lacking xs ys o) [
  | inl all ↦ inl (flows_ext ys xs sub.ordered o (λ f. same_test (has ys f) (has xs f) (sub.within f) (all f)))
  | inr d ↦ inr (record {
    flow = d.0;
    here = d.1;
    not_there = d.2;
    same_before = λ g earlier. same_test (has xs g) (has ys g) (λ there. d.3 g there earlier) (sub.within g);
  })
]

-- The flows that pass are the first subset.
pub marked_first : (n : ℕ) (Holds : List Flow → Type 0) (all xs : List Flow) → IsFlowSet n all → IsEdgeWise n Holds → IsSubset xs all
    → AreMarked (λ f. Holds (f ∷ [])) all xs → IsFirst Holds all xs
marked_first n Holds all xs set edge_wise sub marked = record {
  within = sub;
  holds = (edge_wise xs (IsFlowSet-subset n xs all set sub)).1 (λ f there. (marked f (sub.within f there)).0 there);
  first = λ ys within holds. differs_or_same xs ys sub.ordered (record {
    ordered = within.ordered;
    within = λ f there. (marked f (within.within f there)).1 ((edge_wise ys (IsFlowSet-subset n ys all set within)).0 holds f there);
  });
}

pub alone : (all : List Flow) (f : Flow) → IsTrue (has all f) → IsSubset (f ∷ []) all
alone all f there = record {
  ordered = (λ g none. has_nothing g none, tt);
  within = λ g same. elim (or_cases (same_flow f g) false same) [
    | inl is ↦ same_fact (λ h. IsTrue (has all h)) f g is there
    | inr impossible ↦ absurd (false≢true impossible)
  ];
}

-- The first subset contains the flows that pass.
pub first_marked : (n : ℕ) (Holds : List Flow → Type 0) (all xs : List Flow) → IsFlowSet n all → IsEdgeWise n Holds → IsFirst Holds all xs
    → AreMarked (λ f. Holds (f ∷ [])) all xs
first_marked n Holds all xs set edge_wise p f there =
    ((edge_wise xs (IsFlowSet-subset n xs all set p.within)).0 p.holds f, λ passes. ((first_greatest n Holds all xs set edge_wise p).greatest (f ∷ []) (alone all f there) passes).within f (has_first f []))

-- ---- one more flow, and one fewer

-- f passes.
pub marked_kept : (Passes : Flow → Type 0) (all xs : List Flow) (f : Flow) → Passes f → AreMarked Passes all xs → AreMarked Passes (with_flow all f) (with_flow xs f)
marked_kept Passes all xs f passes marked g there = elim (cases_Bool (same_flow f g)) [
  | inl same ↦ (λ here. same_fact Passes f g same passes, λ p. has-with_flow xs f g ∙ or_left _ _ same)
  | inr other ↦
      let old : IsTrue (has all g) = sym (ap (λ b. b || has all g) other) ∙ sym (has-with_flow all f g) ∙ there in
      (λ here. (marked g old).0 (sym (ap (λ b. b || has xs g) other) ∙ sym (has-with_flow xs f g) ∙ here), λ p. has-with_flow xs f g ∙ or_right _ _ ((marked g old).1 p))
]

-- f does not.
pub marked_left : (Passes : Flow → Type 0) (all xs : List Flow) (f : Flow) → (Passes f → ⊥) → IsFalse (has xs f) → AreMarked Passes all xs
    → AreMarked Passes (with_flow all f) xs
marked_left Passes all xs f fails absent marked g there = elim (cases_Bool (same_flow f g)) [
  | inl same ↦
      (λ here. absurd (both_ways _ absent (same_fact (λ h. IsTrue (has xs h)) g f (sym (same_flow_sym f g) ∙ same) here)), λ p. absurd (fails (same_fact Passes g f (sym (same_flow_sym f g) ∙ same) p)))
  | inr other ↦ marked g (sym (ap (λ b. b || has all g) other) ∙ sym (has-with_flow all f g) ∙ there)
]

-- f is removed.
pub marked_out : (Passes : Flow → Type 0) (all xs : List Flow) (f : Flow) → AreMarked Passes all xs
    → AreMarked Passes (without_flow all f) (without_flow xs f)
marked_out Passes all xs f marked g there =
    let parts = and_parts _ _ (sym (has-without_flow all f g) ∙ there) in
    (λ here. (marked g parts.0).0 (and_parts _ _ (sym (has-without_flow xs f g) ∙ here)).0, λ p. has-without_flow xs f g ∙ and_from _ _ ((marked g parts.0).1 p) parts.1)

-- ---- subsets

-- A flow that is not in a set is not in its subsets.
pub absent_from : (all xs : List Flow) (f : Flow) → IsSubset xs all → IsFalse (has all f) → IsFalse (has xs f)
absent_from all xs f sub absent = elim (cases_Bool (has xs f)) [ inl there ↦ absurd (both_ways _ absent (sub.within f there)) | inr none ↦ none ]

pub within_both : (xs all : List Flow) (f : Flow) → IsSubset xs all → IsSubset (with_flow xs f) (with_flow all f)
within_both xs all f sub = record {
  ordered = IsOrdered-with_flow xs f sub.ordered;
  within = λ g there. has-with_flow all f g ∙ elim (or_cases _ _ (sym (has-with_flow xs f g) ∙ there)) [ inl same ↦ or_left _ _ same | inr old ↦ or_right _ _ (sub.within g old) ];
}

pub within_more : (xs all : List Flow) (f : Flow) → IsSubset xs all → IsSubset xs (with_flow all f)
within_more xs all f sub = record { ordered = sub.ordered; within = λ g there. has-with_flow all f g ∙ or_right _ _ (sub.within g there) }

pub within_less : (xs all : List Flow) (f : Flow) → IsSubset xs all → IsSubset (without_flow xs f) (without_flow all f)
within_less xs all f sub = record {
  ordered = IsOrdered-without_flow xs f sub.ordered;
  within = λ g there.
      let parts = and_parts _ _ (sym (has-without_flow xs f g) ∙ there) in has-without_flow all f g ∙ and_from _ _ (sub.within g parts.0) parts.1;
}
