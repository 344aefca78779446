-- Laws of the search for a minimal failing set: its start, a step by a transition flow, and its end.
use Rattle.std.proofs.Common.{◌≡◌, ℕ, Bool, true, false, ◌||◌, inl, inr, List, [], ◌∷◌, ◌++◌, refl, sym, ◌∙◌, ap, subst}
use Rattle.std.specs.Prelude.{IsTrue, IsFalse}
use Rattle.std.specs.List.{fold}
use Rattle.std.proofs.lemmas.Bool.{both_ways, false≢true, cases_Bool, or_cases, or_from, or_left, or_right}
use Rattle.flow_set.specs.declared.flow.Flow.{Flow}
use Rattle.flow_set.specs.Flow.{IsFlow, same_flow}
use Rattle.flow_set.specs.FlowSet.{has, IsOrdered, IsSubset, with_flow}
use Rattle.flow_set.specs.inner.FlowSetView.{IsFlowSet}
use Rattle.flow_set.specs.inner.Downward.{IsDownwardClosed, IsEdgeWise}
use Rattle.flow_set.proofs.ConditionLaws.{edge_wise-with_flow}
use Rattle.flow_set.specs.laws.FlowLaws.{flows_ext, has-append, has-with_flow, has_nothing, or_swap, same_fact, same_test, same_flow_self, IsOrdered-front, IsOrdered-with_flow}
use Rattle.flow_set.proofs.SubsetLaws.{IsFlowSet-subset, subset_both, subset_self, subset_trans}
use Rattle.flow_set.proofs.ListedLaws.{has-fold_with_flow}
use Rattle.explain_core.specs.Failing.{IsMinimalFailing}
use Rattle.explain_core.proofs.LeastLaws.{least_next}
use Rattle.explain_core.specs.inner.Transitions.{AreNarrowed, IsTransition}

-- ---- flows added one by one

pub IsOrdered-fold : (fs gs : List Flow) → IsOrdered fs → IsOrdered (fold with_flow fs gs)
IsOrdered-fold fs [] o = o
IsOrdered-fold fs (g ∷ gs) o = IsOrdered-fold (with_flow fs g) gs (IsOrdered-with_flow fs g o)

-- A flow may be added before the others or after them.
pub fold-with_flow : (fs gs : List Flow) (g : Flow) → IsOrdered fs → fold with_flow (with_flow fs g) gs ≡ with_flow (fold with_flow fs gs) g
fold-with_flow fs gs g o =
    flows_ext (fold with_flow (with_flow fs g) gs) (with_flow (fold with_flow fs gs) g)
    (IsOrdered-fold (with_flow fs g) gs (IsOrdered-with_flow fs g o)) (IsOrdered-with_flow (fold with_flow fs gs) g (IsOrdered-fold fs gs o))
    (λ h.
    has-fold_with_flow (with_flow fs g) gs h
    ∙ ap (λ b. has gs h || b) (has-with_flow fs g h)
    ∙ or_swap (has gs h) (same_flow g h) (has fs h)
    ∙ ap (λ b. same_flow g h || b) (sym (has-fold_with_flow fs gs h))
    ∙ sym (has-with_flow (fold with_flow fs gs) g h))

-- The flows of a set added to one flow are the set with this flow.
pub fold-one : (e : List Flow) (f : Flow) → IsOrdered e → fold with_flow (f ∷ []) e ≡ with_flow e f
fold-one e f o =
    flows_ext (fold with_flow (f ∷ []) e) (with_flow e f)
    (IsOrdered-fold (f ∷ []) e (λ g h. has_nothing g h, tt)) (IsOrdered-with_flow e f o)
    (λ h. has-fold_with_flow (f ∷ []) e h ∙ swapped (has e h) (same_flow f h) ∙ sym (has-with_flow e f h))
  where
    swapped : (a b : Bool) → (a || (b || false)) ≡ (b || a)
    swapped true true = refl
    swapped true false = refl
    swapped false true = refl
    swapped false false = refl

pub fold_within : (fs gs : List Flow) → IsOrdered fs → IsSubset fs (fold with_flow fs gs)
fold_within fs gs o = record {
  ordered = o;
  within = λ h there. has-fold_with_flow fs gs h ∙ or_right _ _ there;
}

-- The flows up to g are a subset of all flows.
pub transition_within : (needed before left : List Flow) (g : Flow) → IsOrdered needed
    → IsSubset (with_flow (fold with_flow needed before) g) (fold with_flow needed (before ++ g ∷ left))
transition_within needed before left g o = record {
  ordered = IsOrdered-with_flow (fold with_flow needed before) g (IsOrdered-fold needed before o);
  within = λ h there.
      has-fold_with_flow needed (before ++ g ∷ left) h
      ∙ ap (λ b. b || has needed h) (has-append before (g ∷ left) h)
      ∙ more (same_flow g h) (has before h) (has left h) (has needed h)
      (sym (has-with_flow (fold with_flow needed before) g h ∙ ap (λ b. same_flow g h || b) (has-fold_with_flow needed before h)) ∙ there);
}
  where
    more : (s b l n : Bool) → IsTrue (s || (b || n)) → IsTrue ((b || (s || l)) || n)
    more true true l n h = refl
    more true false l n h = refl
    more false true l n h = refl
    more false false l true h = or_right _ _ refl
    more false false l false h = absurd (false≢true h)

-- A set is a subset of itself with one more flow.
pub with_flow_more : (fs : List Flow) (g : Flow) → IsOrdered fs → IsSubset fs (with_flow fs g)
with_flow_more fs g o = record {
  ordered = o;
  within = λ h there. has-with_flow fs g h ∙ or_right _ _ there;
}

-- A subset of a set with one more flow is a subset of the set if it lacks this flow.
pub within_without : (xs s : List Flow) (g f : Flow) → IsSubset s (with_flow xs g) → IsTrue (same_flow g f) → IsFalse (has s f) → IsSubset s xs
within_without xs s g f sub same absent = record {
  ordered = sub.ordered;
  within = λ h there. elim (or_cases (same_flow g h) (has xs h) (sym (has-with_flow xs g h) ∙ sub.within h there)) [
    | inl also ↦ absurd (both_ways _ absent (sym (same_test (has s) g f same) ∙ same_test (has s) g h also ∙ there))
    | inr m ↦ m
  ];
}

-- ---- the search

pub narrowed_start : (n : ℕ) (Holds : List Flow → Type 0) (e : List Flow) (f : Flow) → IsFlowSet n e → IsDownwardClosed n Holds
    → Holds e → (Holds (with_flow e f) → ⊥) → AreNarrowed Holds (with_flow e f) (f ∷ []) e
narrowed_start n Holds e f set downward holds fails =
    let whole : fold with_flow (f ∷ []) e ≡ with_flow e f = fold-one e f set.ordered in
    record {
      ordered = (λ g h. has_nothing g h, tt);
      rest_ordered = set.ordered;
      within = subst (λ (xs : List Flow). IsSubset xs (with_flow e f)) (sym whole) (subset_self (with_flow e f) (IsOrdered-with_flow e f set.ordered));
      fails = λ still. fails (subst Holds whole still);
      minimal = λ s sub g there absent. elim (or_cases (same_flow f g) false there) [
        | inl same ↦ downward e s set (within_without e s f g (subst (IsSubset s) whole sub) same absent) holds
        | inr impossible ↦ absurd (false≢true impossible)
      ];
      least = λ s sub failed. inl (subst (IsSubset s) (sym whole) sub);
    }

pub narrowed_next : (n : ℕ) (Holds : List Flow → Type 0) (e needed rest before : List Flow) (g : Flow) → IsFlowSet n e → IsDownwardClosed n Holds
    → AreNarrowed Holds e needed rest → IsTransition Holds needed rest g before → AreNarrowed Holds e (with_flow needed g) before
narrowed_next n Holds e needed rest before g set downward narrowed transition =
    let front : List Flow = fold with_flow needed before in
    let all : List Flow = fold with_flow needed rest in
    let front_set : IsOrdered front = IsOrdered-fold needed before narrowed.ordered in
    let same : fold with_flow (with_flow needed g) before ≡ with_flow front g = fold-with_flow needed before g narrowed.ordered in
    let smaller : IsSubset (with_flow front g) all =
    subst (λ (xs : List Flow). IsSubset (with_flow front g) (fold with_flow needed xs)) transition.place (transition_within needed before transition.left g narrowed.ordered) in
    let inside : IsSubset (with_flow front g) e = subset_trans (with_flow front g) all e smaller narrowed.within in
    let front_inside : IsFlowSet n front =
    IsFlowSet-subset n front e set (subset_trans front (with_flow front g) e (with_flow_more front g front_set) inside) in
    record {
      ordered = IsOrdered-with_flow needed g narrowed.ordered;
      rest_ordered = IsOrdered-front before (g ∷ transition.left) (subst IsOrdered (sym transition.place) narrowed.rest_ordered);
      within = subst (λ (xs : List Flow). IsSubset xs e) (sym same) inside;
      fails = λ still. transition.fails (subst Holds same still);
      minimal = λ s sub f there absent.
          let under : IsSubset s (with_flow front g) = subst (IsSubset s) same sub in
          elim (or_cases (same_flow g f) (has needed f) (sym (has-with_flow needed g f) ∙ there)) [
            | inl this ↦ downward front s front_inside (within_without front s g f under this absent) transition.holds
            | inr earlier ↦ narrowed.minimal s (subset_trans s (with_flow front g) all under smaller) f earlier absent
          ];
      least = λ s sub failed. least_next Holds e needed rest before g s narrowed transition sub failed;
    }

-- A transition flow is one of the flows.
pub transition_member : (Holds : List Flow → Type 0) (e needed rest before : List Flow) (g : Flow) → AreNarrowed Holds e needed rest
    → IsTransition Holds needed rest g before → IsTrue (has e g)
transition_member Holds e needed rest before g narrowed transition =
    narrowed.within.within g
    (subst (λ (xs : List Flow). IsTrue (has (fold with_flow needed xs) g)) transition.place
    ((transition_within needed before transition.left g narrowed.ordered).within g
    (has-with_flow (fold with_flow needed before) g g ∙ or_left _ _ (same_flow_self g))))

pub narrowed_end : (Holds : List Flow → Type 0) (e needed rest : List Flow) → AreNarrowed Holds e needed rest → (Holds needed → ⊥)
    → IsMinimalFailing Holds e needed
narrowed_end Holds e needed rest narrowed fails =
    let inside : IsSubset needed (fold with_flow needed rest) = fold_within needed rest narrowed.ordered in
    record {
      within = subset_trans needed (fold with_flow needed rest) e inside narrowed.within;
      fails = fails;
      minimal = λ s sub. narrowed.minimal s (subset_trans s needed (fold with_flow needed rest) sub inside);
    }

-- If a minimal failing set of an edge-wise condition has the new flow, it has no other flow.
pub minimal_alone : (n : ℕ) (Holds : List Flow → Type 0) (e w : List Flow) (f : Flow) → IsEdgeWise n Holds → IsFlowSet n e → IsFlow n f
    → Holds e → (Holds (with_flow e f) → ⊥) → IsMinimalFailing Holds (with_flow e f) w → IsTrue (has w f) → w ≡ f ∷ []
minimal_alone n Holds e w f edge_wise set is_flow holds fails minimal member =
    let one : IsSubset (f ∷ []) w = record {
      ordered = (λ g h. has_nothing g h, tt);
      within = λ g there. elim (or_cases (same_flow f g) false there) [
        | inl same ↦ same_fact (λ h. IsTrue (has w h)) f g same member
        | inr impossible ↦ absurd (false≢true impossible)
      ];
    } in
    subset_both w (f ∷ []) (record {
      ordered = minimal.within.ordered;
      within = λ g there. elim (cases_Bool (same_flow f g)) [
        | inl same ↦ or_left _ _ same
        | inr other ↦ absurd (fails ((edge_wise-with_flow n Holds e f edge_wise set is_flow holds).0 (minimal.minimal (f ∷ []) one g there (or_from _ _ other refl))))
      ];
    }) one
