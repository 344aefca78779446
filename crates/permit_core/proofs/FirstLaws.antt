-- Lemmas on first subsets, by subject: uniqueness, one more flow in a pass, the omitted flows, the greatest subset.
use Rattle.std.proofs.Common.{◌≡◌, ℕ, inl, inr, Bool, true, false, not, ◌&&◌, ◌||◌, List, [], ◌∷◌, ◌++◌, refl, sym, ◌∙◌, ap, subst}
use Rattle.std.proofs.Math.Bool.{and-true}
use Rattle.std.specs.Prelude.{IsTrue, IsFalse}
use Rattle.std.proofs.lemmas.Bool.{both_ways, false≢true, and_parts, or_cases, or_left, or_right, cases_Bool, true_from_ne_false, false_from_ne_true, not-true}
use Rattle.flow_set.specs.declared.flow.Flow.{Flow}
use Rattle.flow_set.specs.Flow.{before, same_flow}
use Rattle.flow_set.specs.FlowSet.{has, IsOrdered, IsSubset, with_flow, without}
use Rattle.flow_set.specs.inner.FlowSetView.{IsFlowSet, without_flow}
use Rattle.flow_set.specs.Conditions.{IsMinimalOffending, PrecedesAtFirstDifference, IsFirst, IsGreatest}
use Rattle.flow_set.specs.inner.Downward.{IsDownwardClosed, IsEdgeWise}
use Rattle.flow_set.proofs.ConditionLaws.{edge_wise-with_flow}
use Rattle.flow_set.specs.laws.FlowLaws.{has_nothing, same_flow_self, same_fact, after_not_same, before_trans, same_flow_from_order, has-with_flow, has-without_flow, has-without, has-append, has_first, flows_ext, IsOrdered-without_flow, IsOrdered-without, front_before, with_flow-without_flow, without_flow_absent}
use Rattle.flow_set.proofs.SubsetLaws.{IsFlowSet-subset, subset_self, subset_trans, subset_without, subset_without_flow, subset_front, with_flow_within, nothing_within}

-- ---- uniqueness

pub first_unique : (Holds : List Flow → Type 0) (all xs ys : List Flow) → IsFirst Holds all xs → IsFirst Holds all ys → xs ≡ ys
first_unique Holds all xs ys p q =
    elim (p.first ys q.within q.holds) [
      | inl same ↦ sym same
      | inr d ↦ elim (q.first xs p.within p.holds) [
        | inl same ↦ same
        | inr e ↦ elim (cases_Bool (before d.flow e.flow)) [
          | inl earlier ↦ absurd (both_ways _ (sym (e.same_before d.flow earlier) ∙ d.not_there) d.here)
          | inr not_earlier ↦ elim (cases_Bool (before e.flow d.flow)) [
            | inl later ↦ absurd (both_ways _ (sym (d.same_before e.flow later) ∙ e.not_there) e.here)
            | inr not_later ↦ absurd (both_ways _ e.not_there (same_fact (λ f. IsTrue (has xs f)) d.flow e.flow (same_flow_from_order d.flow e.flow not_earlier not_later) d.here))
          ]
        ]
      ]
    ]

-- If the condition holds for the whole set, the first subset is the whole set.
pub first_whole : (Holds : List Flow → Type 0) (all xs : List Flow) → IsOrdered all → IsFirst Holds all xs → Holds all → xs ≡ all
first_whole Holds all xs o p holds =
    elim (p.first all (subset_self all o) holds) [
      | inl same ↦ sym same
      | inr d ↦ absurd (both_ways _ d.not_there (p.within.within d.flow d.here))
    ]

-- ---- a pass, which has found the first subset kept of the flows xs and proceeds to f

pub first_of_nothing : (Holds : List Flow → Type 0) → Holds [] → IsFirst Holds [] []
first_of_nothing Holds holds = record {
  within = nothing_within [];
  holds = holds;
  first = λ ys sub h. inl (flows_ext ys [] sub.ordered tt (λ f. false_from_ne_true _ (λ there. has_nothing f (sub.within f there))));
}

-- A flow of ys before f is a flow of ys without f.
same_but_last : (ys : List Flow) (f g : Flow) → IsTrue (before g f) → has ys g ≡ has (without_flow ys f) g
same_but_last ys f g early = sym (has-without_flow ys f g ∙ ap (λ b. has ys g && not b) (after_not_same g f early) ∙ and-true (has ys g))

-- A flow of kept before f is a flow of kept with f.
same_but_new : (kept : List Flow) (f g : Flow) → IsTrue (before g f) → has (with_flow kept f) g ≡ has kept g
same_but_new kept f g early = has-with_flow kept f g ∙ ap (λ b. b || has kept g) (after_not_same g f early)

rest_within : (xs ys : List Flow) (f : Flow) → IsSubset ys (xs ++ f ∷ []) → IsSubset (without_flow ys f) xs
rest_within xs ys f sub = record {
  ordered = IsOrdered-without_flow ys f sub.ordered;
  within = λ g there.
      let parts = and_parts _ _ (sym (has-without_flow ys f g) ∙ there) in
      elim (or_cases (has xs g) (has (f ∷ []) g) (sym (has-append xs (f ∷ []) g) ∙ sub.within g parts.0)) [
        | inl m ↦ m
        | inr m ↦ elim (or_cases (same_flow f g) false m) [
          | inl same ↦ absurd (both_ways _ (not-true _ parts.1) same)
          | inr impossible ↦ absurd (false≢true impossible)
        ]
      ];
}

rest_holds : (n : ℕ) (Holds : List Flow → Type 0) (xs ys : List Flow) (f : Flow) → IsFlowSet n (xs ++ f ∷ []) → IsDownwardClosed n Holds
    → IsSubset ys (xs ++ f ∷ []) → Holds ys → Holds (without_flow ys f)
rest_holds n Holds xs ys f set downward sub holds =
    downward ys (without_flow ys f) (IsFlowSet-subset n ys (xs ++ f ∷ []) set sub) (subset_without_flow ys f sub.ordered) holds

-- A set that differs from kept in a flow before f also differs there from kept with f, regardless of whether it
-- contains f.
differs_earlier : (kept ys : List Flow) (f : Flow) (d : PrecedesAtFirstDifference kept (without_flow ys f)) → IsTrue (before d.flow f)
    → PrecedesAtFirstDifference kept ys
differs_earlier kept ys f d early = record {
  flow = d.flow;
  here = d.here;
  not_there = same_but_last ys f d.flow early ∙ d.not_there;
  same_before = λ g earlier. d.same_before g earlier ∙ sym (same_but_last ys f g (before_trans g d.flow f earlier early));
}

differs_still : (kept ys : List Flow) (f : Flow) (d : PrecedesAtFirstDifference kept ys) → IsTrue (before d.flow f)
    → PrecedesAtFirstDifference (with_flow kept f) ys
differs_still kept ys f d early = record {
  flow = d.flow;
  here = has-with_flow kept f d.flow ∙ or_right _ _ d.here;
  not_there = d.not_there;
  same_before = λ g earlier. same_but_new kept f g (before_trans g d.flow f earlier early) ∙ d.same_before g earlier;
}

-- f is the difference if ys lacks f and is otherwise equal to kept.
differs_last : (kept ys : List Flow) (f : Flow) → without_flow ys f ≡ kept → IsFalse (has ys f) → PrecedesAtFirstDifference (with_flow kept f) ys
differs_last kept ys f same absent = record {
  flow = f;
  here = has-with_flow kept f f ∙ or_left _ _ (same_flow_self f);
  not_there = absent;
  same_before = λ g early. same_but_new kept f g early ∙ ap (λ zs. has zs g) (sym same) ∙ sym (same_but_last ys f g early);
}

-- The pass keeps f if the condition holds with it.
pub first_kept : (n : ℕ) (Holds : List Flow → Type 0) (xs kept : List Flow) (f : Flow) → IsFlowSet n (xs ++ f ∷ [])
    → IsDownwardClosed n Holds → IsFirst Holds xs kept → Holds (with_flow kept f) → IsFirst Holds (xs ++ f ∷ []) (with_flow kept f)
unfolding differs_earlier
first_kept n Holds xs kept f set downward p holds = record {
  within = with_flow_within kept (xs ++ f ∷ []) f (subset_trans kept xs (xs ++ f ∷ []) p.within (subset_front xs (f ∷ []) set.ordered)) (has-append xs (f ∷ []) f ∙ or_right _ _ (has_first f []));
  holds = holds;
  first = λ ys sub met. elim (p.first (without_flow ys f) (rest_within xs ys f sub) (rest_holds n Holds xs ys f set downward sub met)) [
    | inl same ↦ elim (cases_Bool (has ys f)) [
      | inl there ↦ inl (sym (with_flow-without_flow ys f sub.ordered there) ∙ ap (λ zs. with_flow zs f) same)
      | inr absent ↦ inr (differs_last kept ys f same absent)
    ]
    | inr d ↦
        let early : IsTrue (before d.flow f) =
        front_before xs (f ∷ []) d.flow f set.ordered (p.within.within d.flow d.here) (has_first f []) in
        inr (differs_still kept ys f (differs_earlier kept ys f d early) early)
  ];
}

-- The pass omits f if the condition fails with it.
pub first_left : (n : ℕ) (Holds : List Flow → Type 0) (xs kept : List Flow) (f : Flow) → IsFlowSet n (xs ++ f ∷ [])
    → IsDownwardClosed n Holds → IsFirst Holds xs kept → (Holds (with_flow kept f) → ⊥) → IsFirst Holds (xs ++ f ∷ []) kept
first_left n Holds xs kept f set downward p fails = record {
  within = subset_trans kept xs (xs ++ f ∷ []) p.within (subset_front xs (f ∷ []) set.ordered);
  holds = p.holds;
  first = λ ys sub met. elim (p.first (without_flow ys f) (rest_within xs ys f sub) (rest_holds n Holds xs ys f set downward sub met)) [
    | inl same ↦ elim (cases_Bool (has ys f)) [
      | inl there ↦ absurd (fails (subst Holds (sym (with_flow-without_flow ys f sub.ordered there) ∙ ap (λ zs. with_flow zs f) same) met))
      | inr absent ↦ inl (sym (without_flow_absent ys f absent) ∙ same)
    ]
    | inr d ↦ inr (differs_earlier kept ys f d (front_before xs (f ∷ []) d.flow f set.ordered (p.within.within d.flow d.here) (has_first f [])))
  ];
}

-- ---- the omitted flows

-- No first subset with one more flow of the set satisfies the condition.
pub first_with : (Holds : List Flow → Type 0) (all xs : List Flow) (f : Flow) → IsFirst Holds all xs → IsTrue (has all f)
    → IsFalse (has xs f) → Holds (with_flow xs f) → ⊥
first_with Holds all xs f p there absent holds =
    elim (p.first (with_flow xs f) (with_flow_within xs all f p.within there) holds) [
      | inl same ↦ both_ways _ absent (subst (λ (zs : List Flow). IsTrue (has zs f)) same (has-with_flow xs f f ∙ or_left _ _ (same_flow_self f)))
      | inr d ↦ both_ways _ d.not_there (has-with_flow xs f d.flow ∙ or_right _ _ d.here)
    ]

-- The set without the flows that a subset omits is the subset.
pub without_first : (all xs : List Flow) → IsOrdered all → IsSubset xs all → without all (without all xs) ≡ xs
without_first all xs o sub =
    flows_ext (without all (without all xs)) xs (IsOrdered-without all (without all xs) o) sub.ordered
    (λ f. has-without all (without all xs) f ∙ ap (λ b. has all f && not b) (has-without all xs f) ∙ twice (has all f) (has xs f) (sub.within f))
  where
    twice : (a b : Bool) → (IsTrue b → IsTrue a) → (a && not (a && not b)) ≡ b
    twice true true h = refl
    twice true false h = refl
    twice false true h = h refl
    twice false false h = refl

-- The flows that the first subset omits from a set that fails are a minimal offending set.
pub first_offending : (Holds : List Flow → Type 0) (all xs : List Flow) → IsOrdered all → IsFirst Holds all xs → (Holds all → ⊥)
    → IsMinimalOffending Holds all (without all xs)
first_offending Holds all xs o p fails =
    let back : without all (without all xs) ≡ xs = without_first all xs o p.within in
    record {
      within = subset_without all xs o;
      fails = fails;
      holds_without = subst Holds (sym back) p.holds;
      minimal = λ g left holds.
          let parts = and_parts _ _ (sym (has-without all xs g) ∙ left) in
          first_with Holds all xs g p parts.0 (not-true _ parts.1) (subst (λ (zs : List Flow). Holds (with_flow zs g)) back holds);
    }

-- ---- the greatest subset

-- The first subset of an edge-wise condition contains every other subset that satisfies it.
pub first_greatest : (n : ℕ) (Holds : List Flow → Type 0) (all xs : List Flow) → IsFlowSet n all → IsEdgeWise n Holds
    → IsFirst Holds all xs → IsGreatest Holds all xs
first_greatest n Holds all xs set edge_wise p = record {
  within = p.within;
  holds = p.holds;
  greatest = λ ys sub holds. record {
    ordered = sub.ordered;
    within = λ f there. true_from_ne_false _ (λ absent.
        let here : IsTrue (has all f) = sub.within f there in
        let alone : Holds (f ∷ []) = (edge_wise ys (IsFlowSet-subset n ys all set sub)).0 holds f there in
        let mine : IsFlowSet n xs = IsFlowSet-subset n xs all set p.within in
        first_with Holds all xs f p here absent ((edge_wise-with_flow n Holds xs f edge_wise mine (set.flows f here) p.holds).0 alone));
  };
}
