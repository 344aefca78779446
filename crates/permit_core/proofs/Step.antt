-- The state of a pass after the flows xs of a set, at f, with `left` remaining.
use Rattle.std.proofs.Common.{◌≡◌, ℕ, List, [], ◌∷◌, ◌++◌, sym, ◌∙◌, ap, subst}
use Rattle.std.specs.Prelude.{IsFalse}
use Rattle.std.proofs.lemmas.Bool.{both_ways, false_from_ne_true, or_right}
use Rattle.flow_set.specs.declared.flow.Flow.{Flow}
use Rattle.flow_set.specs.Flow.{IsFlow}
use Rattle.flow_set.specs.FlowSet.{has, IsOrdered, IsSubset, with_flow}
use Rattle.flow_set.specs.inner.FlowSetView.{IsFlowSet, without_flow}
use Rattle.flow_set.specs.Conditions.{IsFirst}
use Rattle.flow_set.specs.laws.FlowLaws.{before_self, has-append, has_first, front_before, without_flow-with_flow}
use Rattle.flow_set.proofs.SubsetLaws.{IsFlowSet-subset, subset_trans, subset_front}
use Rattle.flow_set.specs.laws.WalkLaws.{walk_next}
use Rattle.permit_core.specs.inner.Grown.{IsExtended, IsNew}

-- The flows so far together with f are a set.
pub walked : (n : ℕ) (xs left rest whole : List Flow) (f : Flow) → IsFlowSet n whole → xs ++ left ≡ whole → left ≡ f ∷ rest
    → IsFlowSet n (xs ++ f ∷ [])
walked n xs left rest whole f set walk next =
    let e = walk_next xs left rest whole f walk next in
    IsFlowSet-subset n (xs ++ f ∷ []) whole set
    (subst (λ (zs : List Flow). IsSubset (xs ++ f ∷ []) zs) e (subset_front (xs ++ f ∷ []) rest (subst IsOrdered (sym e) set.ordered)))

pub flow_walked : (n : ℕ) (xs : List Flow) (f : Flow) → IsFlowSet n (xs ++ f ∷ []) → IsFlow n f
flow_walked n xs f set = set.flows f (has-append xs (f ∷ []) f ∙ or_right _ _ (has_first f []))

-- f is not in the flows kept so far.
pub kept_lacks : (n : ℕ) (xs kept : List Flow) (f : Flow) → IsFlowSet n (xs ++ f ∷ []) → IsSubset kept xs → IsFalse (has kept f)
kept_lacks n xs kept f set sub =
    false_from_ne_true _
    (λ there. both_ways _ (before_self f) (front_before xs (f ∷ []) f f set.ordered (sub.within f there) (has_first f [])))

pub kept_set : (n : ℕ) (xs kept : List Flow) (f : Flow) → IsFlowSet n (xs ++ f ∷ []) → IsSubset kept xs → IsFlowSet n kept
kept_set n xs kept f set sub =
    IsFlowSet-subset n kept (xs ++ f ∷ []) set (subset_trans kept xs (xs ++ f ∷ []) sub (subset_front xs (f ∷ []) set.ordered))

-- f is one more flow for the kept flows.
pub kept_new : (n : ℕ) (xs kept : List Flow) (f : Flow) → IsFlowSet n (xs ++ f ∷ []) → IsSubset kept xs → IsNew n kept f
kept_new n xs kept f set sub = record {
  set = kept_set n xs kept f set sub;
  flow = flow_walked n xs f set;
  absent = kept_lacks n xs kept f set sub;
}

-- The kept flows together with f are a set that satisfied the condition, with one more flow.
pub kept_grown : (n m : ℕ) (Holds : List Flow → Type 0) (xs kept fs : List Flow) (f : Flow) → n ≡ m → IsFlowSet n (xs ++ f ∷ [])
    → IsFirst Holds xs kept → fs ≡ with_flow kept f → IsExtended m Holds fs f
kept_grown n m Holds xs kept fs f same set p grown = record {
  old = kept;
  set = subst (λ k. IsFlowSet k kept) same (kept_set n xs kept f set p.within);
  held = p.holds;
  flow = subst (λ k. IsFlow k f) same (flow_walked n xs f set);
  absent = kept_lacks n xs kept f set p.within;
  grown = grown;
}

-- Inserting and removing f restores the set.
pub kept_again : (n : ℕ) (xs kept fs gs : List Flow) (f : Flow) → IsFlowSet n (xs ++ f ∷ []) → IsSubset kept xs
    → fs ≡ with_flow kept f → gs ≡ without_flow fs f → gs ≡ kept
kept_again n xs kept fs gs f set sub put taken =
    taken ∙ ap (λ (zs : List Flow). without_flow zs f) put ∙ without_flow-with_flow kept f sub.ordered (kept_lacks n xs kept f set sub)
