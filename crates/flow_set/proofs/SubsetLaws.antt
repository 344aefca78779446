-- Lemmas on sets of flows between n hosts and on their subsets.
use Rattle.std.proofs.Common.{◌≡◌, ℕ, ◌≤◌, Bool, true, false, not, List, [], ◌++◌, inl, inr, refl, sym, ◌∙◌}
use Rattle.std.specs.Prelude.{IsTrue, filter, ◌↔◌, ◌⊎◌}
use Rattle.std.proofs.lemmas.Bool.{and_parts, or_cases, or_left, or_right}
use Rattle.flow_set.specs.declared.flow.Flow.{Flow}
use Rattle.flow_set.specs.Flow.{IsFlow, same_flow, reverse_of}
use Rattle.flow_set.specs.FlowSet.{has, IsOrdered, IsSubset, IsFull, with_flow, without, with_back}
use Rattle.flow_set.specs.inner.FlowSetView.{IsFlowSet, without_flow}
use Rattle.flow_set.specs.laws.FlowLaws.{has_nothing, same_fact, has-append, has-with_flow, has-filter, has-with_back, flows_ext, IsOrdered-filter, IsOrdered-with_flow, IsOrdered-with_back, IsOrdered-front}

-- ---- sets between n hosts

pub IsFlow-reverse_of : (n : ℕ) (f : Flow) → IsFlow n f → IsFlow n (reverse_of f)
IsFlow-reverse_of n f h = (h.1, h.0, λ e. h.2 (sym e))

pub IsFlowSet-nothing : (n : ℕ) → n ≤ 256 → IsFlowSet n []
IsFlowSet-nothing n small = record {
  small = small;
  ordered = tt;
  flows = λ f h. has_nothing f h;
}

pub IsFlowSet-with_flow : (n : ℕ) (fs : List Flow) (f : Flow) → IsFlowSet n fs → IsFlow n f → IsFlowSet n (with_flow fs f)
IsFlowSet-with_flow n fs f set is_flow = record {
  small = set.small;
  ordered = IsOrdered-with_flow fs f set.ordered;
  flows = λ g h. elim (or_cases (same_flow f g) (has fs g) (sym (has-with_flow fs f g) ∙ h)) [
    | inl s ↦ same_fact (IsFlow n) f g s is_flow
    | inr m ↦ set.flows g m
  ];
}

pub IsFlowSet-subset : (n : ℕ) (xs ys : List Flow) → IsFlowSet n ys → IsSubset xs ys → IsFlowSet n xs
IsFlowSet-subset n xs ys set sub = record {
  small = set.small;
  ordered = sub.ordered;
  flows = λ f h. set.flows f (sub.within f h);
}

pub IsFlowSet-filter : (n : ℕ) (p : Flow → Bool) (fs : List Flow) → IsFlowSet n fs → IsFlowSet n (filter p fs)
IsFlowSet-filter n p fs set = record {
  small = set.small;
  ordered = IsOrdered-filter p fs set.ordered;
  flows = λ f h. set.flows f (and_parts _ _ (sym (has-filter p fs f) ∙ h)).0;
}

pub IsFlowSet-without : (n : ℕ) (fs gs : List Flow) → IsFlowSet n fs → IsFlowSet n (without fs gs)
IsFlowSet-without n fs gs set = IsFlowSet-filter n (λ f. not (has gs f)) fs set

pub IsFlowSet-with_back : (n : ℕ) (fs gs : List Flow) → IsFlowSet n fs → IsFlowSet n gs → IsFlowSet n (with_back fs gs)
IsFlowSet-with_back n fs gs p q = record {
  small = p.small;
  ordered = IsOrdered-with_back fs gs p.ordered;
  flows = λ f h. elim (or_cases (has fs f) (has gs (reverse_of f)) (sym (has-with_back fs gs f) ∙ h)) [
    | inl m ↦ p.flows f m
    | inr m ↦ IsFlow-reverse_of n (reverse_of f) (q.flows (reverse_of f) m)
  ];
}

-- A flow of a set with answers is a member of the set or an answer.
pub with_back_members : (fs gs : List Flow) (f : Flow)
    → IsTrue (has (with_back fs gs) f) ↔ (IsTrue (has fs f) ⊎ IsTrue (has gs (reverse_of f)))
with_back_members fs gs f = (
  λ there. or_cases _ _ (sym (has-with_back fs gs f) ∙ there),
  λ either. has-with_back fs gs f ∙ elim either [
    | inl own ↦ or_left _ _ own
    | inr answer ↦ or_right _ _ answer
  ],
)

-- ---- subsets

pub nothing_within : (fs : List Flow) → IsSubset [] fs
nothing_within fs = record {
  ordered = tt;
  within = λ f h. has_nothing f h;
}

pub subset_self : (fs : List Flow) → IsOrdered fs → IsSubset fs fs
subset_self fs o = record {
  ordered = o;
  within = λ f h. h;
}

-- A set that has every flow contains every other set.
pub subset_full : (n : ℕ) (xs full : List Flow) → IsFlowSet n xs → IsFull n full → IsSubset xs full
subset_full n xs full set is_full = record {
  ordered = set.ordered;
  within = λ f h. (is_full f).1 (set.flows f h);
}

pub subset_trans : (xs ys zs : List Flow) → IsSubset xs ys → IsSubset ys zs → IsSubset xs zs
subset_trans xs ys zs p q = record {
  ordered = p.ordered;
  within = λ f h. q.within f (p.within f h);
}

-- Sets that are subsets of each other are equal.
pub subset_both : (xs ys : List Flow) → IsSubset xs ys → IsSubset ys xs → xs ≡ ys
subset_both xs ys p q = flows_ext xs ys p.ordered q.ordered (λ f. same_answer (has xs f) (has ys f) (p.within f) (q.within f))
  where
    same_answer : (a b : Bool) → (IsTrue a → IsTrue b) → (IsTrue b → IsTrue a) → a ≡ b
    same_answer true b h k = sym (h refl)
    same_answer false true h k = k refl
    same_answer false false h k = refl

-- The set with every flow between n hosts is unique.
pub full_is_one : (n : ℕ) (xs ys : List Flow) → IsFlowSet n xs → IsFlowSet n ys → IsFull n xs → IsFull n ys → xs ≡ ys
full_is_one n xs ys p q full other = subset_both xs ys (subset_full n xs ys p other) (subset_full n ys xs q full)

pub subset_filter : (p : Flow → Bool) (fs : List Flow) → IsOrdered fs → IsSubset (filter p fs) fs
subset_filter p fs o = record {
  ordered = IsOrdered-filter p fs o;
  within = λ f h. (and_parts _ _ (sym (has-filter p fs f) ∙ h)).0;
}

pub subset_without : (fs gs : List Flow) → IsOrdered fs → IsSubset (without fs gs) fs
subset_without fs gs o = subset_filter (λ f. not (has gs f)) fs o

-- A subset with one more flow of the set is a subset.
pub with_flow_within : (xs ys : List Flow) (f : Flow) → IsSubset xs ys → IsTrue (has ys f) → IsSubset (with_flow xs f) ys
with_flow_within xs ys f sub member = record {
  ordered = IsOrdered-with_flow xs f sub.ordered;
  within = λ g h. elim (or_cases (same_flow f g) (has xs g) (sym (has-with_flow xs f g) ∙ h)) [
    | inl s ↦ same_fact (λ y. IsTrue (has ys y)) f g s member
    | inr m ↦ sub.within g m
  ];
}

-- Fewer answers result in a smaller set.
pub with_back_grows : (fs xs ys : List Flow) → IsOrdered fs → IsSubset xs ys → IsSubset (with_back fs xs) (with_back fs ys)
with_back_grows fs xs ys o sub = record {
  ordered = IsOrdered-with_back fs xs o;
  within = λ f h. has-with_back fs ys f ∙ (elim (or_cases (has fs f) (has xs (reverse_of f)) (sym (has-with_back fs xs f) ∙ h)) [
    | inl m ↦ or_left _ _ m
    | inr m ↦ or_right _ _ (sub.within (reverse_of f) m)
  ]);
}

pub subset_without_flow : (fs : List Flow) (f : Flow) → IsOrdered fs → IsSubset (without_flow fs f) fs
subset_without_flow fs f o = subset_filter (λ g. not (same_flow f g)) fs o

-- A prefix of a set is a subset of it.
pub subset_front : (xs ys : List Flow) → IsOrdered (xs ++ ys) → IsSubset xs (xs ++ ys)
subset_front xs ys o = record {
  ordered = IsOrdered-front xs ys o;
  within = λ f h. has-append xs ys f ∙ or_left _ _ h;
}
