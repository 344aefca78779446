-- Laws of least failing sets: the last flow of a set that is not in another set, the steps of the search, and uniqueness.
use Rattle.std.proofs.Common.{◌≡◌, Bool, true, false, ◌||◌, inl, inr, List, [], ◌∷◌, ◌++◌, refl, sym, ◌∙◌, ap, subst}
use Rattle.std.specs.Prelude.{IsTrue, IsFalse, ◌⊎◌}
use Rattle.std.specs.List.{fold}
use Rattle.std.proofs.lemmas.Bool.{both_ways, cases_Bool, or_cases, or_from, or_left, or_parts, or_right}
use Rattle.flow_set.specs.declared.flow.Flow.{Flow}
use Rattle.flow_set.specs.Flow.{before, same_flow}
use Rattle.flow_set.specs.FlowSet.{has, IsOrdered, IsSubset, with_flow}
use Rattle.flow_set.specs.laws.FlowLaws.{after_not_same, before_not_back, before_trans, front_before, has-append, has-with_flow, has_first, has_nothing, same_fact, same_flow_from_order, same_flow_sym}
use Rattle.flow_set.proofs.ListedLaws.{has-fold_with_flow}
use Rattle.flow_set.proofs.SubsetLaws.{subset_both}
use Rattle.explain_core.specs.Failing.{DiffersLastIn, IsLeastFailing}
use Rattle.explain_core.specs.inner.Transitions.{AreNarrowed, Exceeds, IsTransition}

-- ---- the last flow outside a set

-- The last flow of xs that is not in ys.
record IsLastOutside (xs ys : List Flow) : Type 0 where
  flow : Flow
  here : IsTrue (has xs flow)
  not_there : IsFalse (has ys flow)
  last : (f : Flow) → IsTrue (before flow f) → IsTrue (has xs f) → IsTrue (has ys f)

-- A set is a subset of another, or has a last flow that is not in it.
last_outside : (xs ys : List Flow) → IsOrdered xs → ((f : Flow) → IsTrue (has xs f) → IsTrue (has ys f)) ⊎ IsLastOutside xs ys
last_outside [] ys o = inl (λ f there. has_nothing f there)
last_outside (x ∷ xs) ys o = elim (last_outside xs ys o.1) [
  | inr found ↦ inr (record {
    flow = found.flow;
    here = or_right _ _ found.here;
    not_there = found.not_there;
    last = λ f later there. elim (or_cases (same_flow x f) (has xs f) there) [
      | inl same ↦ absurd (both_ways _ (before_not_back x found.flow (o.0 found.flow found.here)) (same_fact (λ g. IsTrue (before found.flow g)) f x (sym (same_flow_sym x f) ∙ same) later))
      | inr member ↦ found.last f later member
    ];
  })
  | inl within ↦ elim (cases_Bool (has ys x)) [
    | inl there ↦ inl (λ f member. elim (or_cases (same_flow x f) (has xs f) member) [
      | inl same ↦ same_fact (λ g. IsTrue (has ys g)) x f same there
      | inr m ↦ within f m
    ])
    | inr absent ↦ inr (record {
      flow = x;
      here = has_first x xs;
      not_there = absent;
      last = λ f later member. elim (or_cases (same_flow x f) (has xs f) member) [
        | inl same ↦ absurd (both_ways _ (after_not_same x f later) (sym (same_flow_sym x f) ∙ same))
        | inr m ↦ within f m
      ];
    })
  ]
]

-- ---- the search

-- A set on which the condition fails has every needed flow.
has_needed : (Holds : List Flow → Type 0) (e needed rest s : List Flow) → AreNarrowed Holds e needed rest → IsSubset s (fold with_flow needed rest)
    → (Holds s → ⊥) → (f : Flow) → IsTrue (has needed f) → IsTrue (has s f)
has_needed Holds e needed rest s narrowed sub fails f there = elim (cases_Bool (has s f)) [
  | inl member ↦ member
  | inr absent ↦ absurd (fails (narrowed.minimal s sub f there absent))
]

-- Two tests of which each implies the other are equal.
pub both_imply : (a b : Bool) → (IsTrue a → IsTrue b) → (IsTrue b → IsTrue a) → a ≡ b
both_imply true b p q = sym (p refl)
both_imply false true p q = q refl
both_imply false false p q = refl

-- A set within the needed flows and the rest is within them after a transition, or exceeds them.
exceeds_within : (Holds : List Flow → Type 0) (e needed rest earlier : List Flow) (g : Flow) (s : List Flow) → AreNarrowed Holds e needed rest
    → IsTransition Holds needed rest g earlier → IsSubset s (fold with_flow needed rest) → (Holds s → ⊥)
    → IsSubset s (fold with_flow (with_flow needed g) earlier) ⊎ Exceeds s (with_flow needed g) earlier
exceeds_within Holds e needed rest earlier g s narrowed transition sub fails =
    elim (last_outside s (fold with_flow (with_flow needed g) earlier) sub.ordered) [
      | inl within ↦ inl (record { ordered = sub.ordered; within = within })
      | inr found ↦
          let f = found.flow in
          let outside = or_parts (has earlier f) (has (with_flow needed g) f) (sym (has-fold_with_flow (with_flow needed g) earlier f) ∙ found.not_there) in
          let other = or_parts (same_flow g f) (has needed f) (sym (has-with_flow needed g f) ∙ outside.1) in
          let order : IsOrdered (earlier ++ g ∷ transition.left) = subst IsOrdered (sym transition.place) narrowed.rest_ordered in
          let member : IsTrue (has earlier f || (same_flow g f || has transition.left f)) =
          sym (has-append earlier (g ∷ transition.left) f) ∙ subst (λ (xs : List Flow). IsTrue (has xs f)) (sym transition.place)
          (first_of (has rest f) (has needed f) (sym (has-fold_with_flow needed rest f) ∙ sub.within f found.here) other.1) in
          let later : IsTrue (has (g ∷ transition.left) f) = second_of (has earlier f) _ member outside.0 in
          let behind : IsTrue (has transition.left f) = second_of (same_flow g f) _ later other.0 in
          let after_g : IsTrue (before g f) = front_before (g ∷ []) transition.left g f (ordered_behind earlier (g ∷ transition.left) order) (has_first g []) behind in
          inr (record {
            flow = f;
            here = found.here;
            not_needed = outside.1;
            after_rest = λ h there. front_before earlier (g ∷ transition.left) h f order there later;
            same_after = λ h after. both_imply (has s h) (has (with_flow needed g) h)
                (λ there. elim (or_cases (has earlier h) (has (with_flow needed g) h) (sym (has-fold_with_flow (with_flow needed g) earlier h) ∙ found.last h after there)) [
                  | inl early ↦ absurd (both_ways _ (before_not_back h f (front_before earlier (g ∷ transition.left) h f order early later)) after)
                  | inr needs ↦ needs
                ])
                (λ there. elim (or_cases (same_flow g h) (has needed h) (sym (has-with_flow needed g h) ∙ there)) [
                  | inl same ↦ absurd (both_ways _ (after_not_same g h (before_trans g f h after_g after)) (sym (same_flow_sym g h) ∙ same))
                  | inr needs ↦ has_needed Holds e needed rest s narrowed sub fails h needs
                ]);
          })
    ]
  where
    first_of : (a b : Bool) → IsTrue (a || b) → IsFalse b → IsTrue a
    first_of true b h absent = refl
    first_of false b h absent = absurd (both_ways _ absent h)

    second_of : (a b : Bool) → IsTrue (a || b) → IsFalse a → IsTrue b
    second_of true b h absent = absurd (both_ways _ absent refl)
    second_of false b h absent = h

    ordered_behind : (xs ys : List Flow) → IsOrdered (xs ++ ys) → IsOrdered ys
    ordered_behind [] ys o = o
    ordered_behind (x ∷ xs) ys o = ordered_behind xs ys o.1

-- A set that exceeds the needed flows and the rest exceeds them after a transition.
exceeds_next : (Holds : List Flow → Type 0) (needed rest earlier : List Flow) (g : Flow) (s : List Flow) → IsTransition Holds needed rest g earlier
    → Exceeds s needed rest → Exceeds s (with_flow needed g) earlier
exceeds_next Holds needed rest earlier g s transition exceeds =
    let f = exceeds.flow in
    let in_rest : (h : Flow) → IsTrue (has (earlier ++ g ∷ transition.left) h) → IsTrue (has rest h) = λ h there. subst (λ (xs : List Flow). IsTrue (has xs h)) transition.place there in
    let after_g : IsTrue (before g f) = exceeds.after_rest g (in_rest g (has-append earlier (g ∷ transition.left) g ∙ or_right _ _ (has_first g transition.left))) in
    record {
      flow = f;
      here = exceeds.here;
      not_needed = has-with_flow needed g f ∙ or_from _ _ (sym (same_flow_sym f g) ∙ after_not_same g f after_g) exceeds.not_needed;
      after_rest = λ h there. exceeds.after_rest h (in_rest h (has-append earlier (g ∷ transition.left) h ∙ or_left _ _ there));
      same_after = λ h after.
          exceeds.same_after h after
          ∙ sym (has-with_flow needed g h ∙ ap (λ b. b || has needed h) (sym (same_flow_sym h g) ∙ after_not_same g h (before_trans g f h after_g after)));
    }

-- After a transition every failing set is within the needed flows and the rest, or exceeds them.
pub least_next : (Holds : List Flow → Type 0) (e needed rest earlier : List Flow) (g : Flow) (s : List Flow) → AreNarrowed Holds e needed rest
    → IsTransition Holds needed rest g earlier → IsSubset s e → (Holds s → ⊥)
    → IsSubset s (fold with_flow (with_flow needed g) earlier) ⊎ Exceeds s (with_flow needed g) earlier
least_next Holds e needed rest earlier g s narrowed transition sub fails =
    elim (narrowed.least s sub fails) [
      | inl within ↦ exceeds_within Holds e needed rest earlier g s narrowed transition within fails
      | inr exceeds ↦ inr (exceeds_next Holds needed rest earlier g s transition exceeds)
    ]

-- At the end the needed flows are the least failing set.
pub least_end : (Holds : List Flow → Type 0) (e needed rest : List Flow) → AreNarrowed Holds e needed rest → IsSubset needed e → (Holds needed → ⊥)
    → IsLeastFailing Holds e needed
least_end Holds e needed rest narrowed inside fails = record {
  within = inside;
  fails = fails;
  least = λ s sub failed. elim (narrowed.least s sub failed) [
    | inr exceeds ↦ inr (record { flow = exceeds.flow; here = exceeds.here; not_there = exceeds.not_needed; same_after = exceeds.same_after })
    | inl within ↦
        let needs = has_needed Holds e needed rest s narrowed within failed in
        elim (last_outside s needed sub.ordered) [
          | inl all ↦ inl (subset_both s needed (record { ordered = sub.ordered; within = all }) (record { ordered = narrowed.ordered; within = needs }))
          | inr found ↦ inr (record {
            flow = found.flow;
            here = found.here;
            not_there = found.not_there;
            same_after = λ h after. both_imply (has s h) (has needed h) (found.last h after) (needs h);
          })
        ]
  ];
}

-- ---- uniqueness

-- Of two distinct sets, only one has the last flow in which they differ.
differs_one_way : (xs ys : List Flow) → DiffersLastIn xs ys → DiffersLastIn ys xs → ⊥
differs_one_way xs ys p q =
    elim (cases_Bool (before p.flow q.flow)) [
      | inl earlier ↦ both_ways _ q.not_there (p.same_after q.flow earlier ∙ q.here)
      | inr not_earlier ↦ elim (cases_Bool (before q.flow p.flow)) [
        | inl later ↦ both_ways _ p.not_there (q.same_after p.flow later ∙ p.here)
        | inr not_later ↦ both_ways _ q.not_there (same_fact (λ f. IsTrue (has xs f)) p.flow q.flow (same_flow_from_order p.flow q.flow not_earlier not_later) p.here)
      ]
    ]

pub least_is_one : (Holds : List Flow → Type 0) (e v w : List Flow) → IsLeastFailing Holds e v → IsLeastFailing Holds e w → v ≡ w
least_is_one Holds e v w p q =
    elim (p.least w q.within q.fails) [
      | inl same ↦ sym same
      | inr d ↦ elim (q.least v p.within p.fails) [
        | inl same ↦ same
        | inr b ↦ absurd (differs_one_way w v d b)
      ]
    ]
