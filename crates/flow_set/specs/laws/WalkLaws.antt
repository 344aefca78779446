-- Lemmas on positions in a flow set, on the size of a flow set, and on loops over a flow set.
use Rattle.std.proofs.Common.{◌≡◌, ℕ, suc, ◌+◌, ◌*◌, ◌<◌, ◌≤◌, Bool, true, false, not, ◌&&◌, cond, List, [], ◌∷◌, ◌++◌, length, refl, sym, ◌∙◌, ap, subst, arith, inl, inr, append_assoc, append-nil}
use Rattle.std.proofs.Math.Bool.{and-false}
use Rattle.std.proofs.Math.Nat.{mul-le-mul_right}
use Rattle.std.specs.Prelude.{IsTrue, IsFalse, Some, None, filter, nat_lt, ◌==◌}
use Rattle.std.proofs.lemmas.Bool.{and_parts, or_cases, or_right, cond_both, both_ways, or_parts, ltb-true, eqb-true}
use Rattle.std.proofs.lemmas.List.Filters.{length-filter_both}
use Rattle.flow_set.specs.declared.flow.Flow.{Flow}
use Rattle.flow_set.specs.Flow.{IsFlow, before, same_flow}
use Rattle.flow_set.specs.FlowSet.{has, IsOrdered, IsSubset, with_flow}
use Rattle.flow_set.specs.inner.FlowSetView.{IsFlowSet, first_from}
use Rattle.flow_set.specs.laws.FlowLaws.{before_self, before_not_back, has_nothing, has_first, has_later, has-append, has-filter, same_fact, same_flow_from_order, flows_ext, IsOrdered-filter}

-- ---- the first flow from a position on: it is in the set and not before the position, and no other such flow is before it
-- If there is no such flow, every flow is before the position.

pub first_from_member : (fs : List Flow) (p f : Flow) → first_from fs p ≡ Some f → IsTrue (has fs f)
first_from_member [] p f found = cc
first_from_member (x ∷ xs) p f found =
    elim (before x p) as (λ b. before x p ≡ b → cond (not b) (Some x) (first_from xs p) ≡ Some f → IsTrue (has (x ∷ xs) f)) [
      | true ↦ λ _ later. has_later x xs f (first_from_member xs p f later)
      | false ↦ λ late here. let e : x ≡ f = cc in subst (λ (z : Flow). IsTrue (has (x ∷ xs) z)) e (has_first x xs)
    ] refl found

pub first_from_late : (fs : List Flow) (p f : Flow) → first_from fs p ≡ Some f → IsFalse (before f p)
first_from_late [] p f found = cc
first_from_late (x ∷ xs) p f found =
    elim (before x p) as (λ b. before x p ≡ b → cond (not b) (Some x) (first_from xs p) ≡ Some f → IsFalse (before f p)) [
      | true ↦ λ _ later. first_from_late xs p f later
      | false ↦ λ late here. let e : x ≡ f = cc in subst (λ (z : Flow). IsFalse (before z p)) e late
    ] refl found

pub first_from_least : (fs : List Flow) (p f : Flow) → IsOrdered fs → first_from fs p ≡ Some f → (g : Flow) → IsTrue (has fs g)
    → IsFalse (before g p) → IsFalse (before g f)
first_from_least [] p f o found g there late = has_nothing g there
first_from_least (x ∷ xs) p f o found g there late =
    elim (before x p) as (λ b. before x p ≡ b → cond (not b) (Some x) (first_from xs p) ≡ Some f → IsFalse (before g f)) [
      | true ↦ λ early later. elim (or_cases (same_flow x g) (has xs g) there) [
        | inl same ↦ absurd (both_ways _ late (same_fact (λ h. IsTrue (before h p)) x g same early))
        | inr m ↦ first_from_least xs p f o.1 later g m late
      ]
      | false ↦ λ _ here. let e : x ≡ f = cc in subst (λ (z : Flow). IsFalse (before g z)) e (elim (or_cases (same_flow x g) (has xs g) there) [
        | inl same ↦ same_fact (λ h. IsFalse (before h x)) x g same (before_self x)
        | inr m ↦ before_not_back x g (o.0 g m)
      ])
    ] refl found

pub first_from_none : (fs : List Flow) (p : Flow) → first_from fs p ≡ None → (g : Flow) → IsTrue (has fs g) → IsTrue (before g p)
first_from_none [] p none g there = has_nothing g there
first_from_none (x ∷ xs) p none g there =
    elim (before x p) as (λ b. before x p ≡ b → cond (not b) (Some x) (first_from xs p) ≡ None → IsTrue (before g p)) [
      | true ↦ λ early rest. elim (or_cases (same_flow x g) (has xs g) there) [
        | inl same ↦ same_fact (λ h. IsTrue (before h p)) x g same early
        | inr m ↦ first_from_none xs p rest g m
      ]
      | false ↦ λ _ some. cc
    ] refl none

-- ---- lengths

-- A subset has at most as many flows as the set.
pub length-IsSubset : (xs ys : List Flow) → IsSubset xs ys → IsOrdered ys → length xs ≤ length ys
length-IsSubset xs ys sub o =
    let picked : filter (has xs) ys ≡ xs =
    flows_ext (filter (has xs) ys) xs (IsOrdered-filter (has xs) ys o) sub.ordered
    (λ f. has-filter (has xs) ys f ∙ and_within (has xs f) (has ys f) (sub.within f)) in
    let others : length (filter (has xs) ys) + length (filter (λ f. not (has xs f)) ys) ≡ length ys =
    length-filter_both (has xs) (λ f. not (has xs f)) (λ f. refl) ys in
    omega (arith, others, ap length picked)
  where
    and_within : (a b : Bool) → (IsTrue a → IsTrue b) → (b && a) ≡ a
    and_within true b h = ap (λ c. c && true) (h refl)
    and_within false b h = and-false b

-- The number of a flow in the order of all pairs of n hosts.
code_of : ℕ → Flow → ℕ
code_of n f = f.from * n + f.to

code_below : (n : ℕ) (f : Flow) → IsFlow n f → code_of n f < n * n
unfolding code_of
code_below n f h = omega (arith, h.0, h.1, mul-le-mul_right {m = f.from + 1} {n = n} n (omega (arith, h.0)))

code_rises : (n : ℕ) (f g : Flow) → IsFlow n f → IsTrue (before f g) → code_of n f < code_of n g
unfolding code_of
code_rises n f g h earlier =
    elim (or_cases (nat_lt f.from g.from) ((f.from == g.from) && nat_lt f.to g.to) earlier) [
      | inl lower ↦ omega (arith, h.1, mul-le-mul_right {m = f.from + 1} {n = g.from} n (omega (arith, ltb-true f.from g.from lower)))
      | inr level ↦
          let parts = and_parts _ _ level in
          let same : f.from * n ≡ g.from * n = ap (λ k. k * n) (eqb-true _ _ parts.0) in
          omega (arith, same, ltb-true f.to g.to parts.1)
    ]

codes_from : (n c : ℕ) (fs : List Flow) → IsOrdered fs → ((f : Flow) → IsTrue (has fs f) → IsFlow n f × (c ≤ code_of n f))
    → c ≤ n * n → c + length fs ≤ n * n
codes_from n c [] o above within = omega arith
codes_from n c (f ∷ fs) o above within =
    let here = above f (has_first f fs) in
    let h : suc (code_of n f) + length fs ≤ n * n = codes_from n (suc (code_of n f)) fs o.1
    (λ g m. ((above g (has_later f fs g m)).0, omega (arith, code_rises n f g here.0 (o.0 g m)))) (omega (arith, code_below n f here.0)) in
    omega (arith, h, here.1)

-- A set has at most as many flows as there are pairs of hosts.
pub length-IsFlowSet : (n : ℕ) (fs : List Flow) → IsFlowSet n fs → length fs ≤ n * n
length-IsFlowSet n fs set =
    let h : 0 + length fs ≤ n * n = codes_from n 0 fs set.ordered (λ f h. (set.flows f h, omega arith)) (omega arith) in
    omega (arith, h)

-- Inserting an absent flow increases the size by one.
pub length-with_flow : (fs : List Flow) (f : Flow) → IsFalse (has fs f) → length (with_flow fs f) ≡ suc (length fs)
length-with_flow [] f absent = refl
length-with_flow (x ∷ xs) f absent =
    let parts = or_parts (same_flow x f) (has xs f) absent in
    cond_both (before f x) (f ∷ x ∷ xs) (x ∷ cond (before x f) (with_flow xs f) xs) (λ zs. length zs ≡ suc (suc (length xs)))
    (λ _. refl)
    (λ not_earlier. cond_both (before x f) (with_flow xs f) xs (λ zs. suc (length zs) ≡ suc (suc (length xs)))
    (λ _. ap suc (length-with_flow xs f parts.1))
    (λ not_later. absurd (both_ways _ parts.0 (same_flow_from_order x f not_later not_earlier))))

-- ---- a loop over a set: xs has been visited, and `left` remains

pub walk_next : (xs left rest whole : List Flow) (f : Flow) → xs ++ left ≡ whole → left ≡ f ∷ rest → (xs ++ f ∷ []) ++ rest ≡ whole
walk_next xs left rest whole f walk next = append_assoc xs (f ∷ []) rest ∙ ap (λ ys. xs ++ ys) (sym next) ∙ walk

pub walk_member : (xs left rest whole : List Flow) (f : Flow) → xs ++ left ≡ whole → left ≡ f ∷ rest → IsTrue (has whole f)
walk_member xs left rest whole f walk next =
    subst (λ (fs : List Flow). IsTrue (has fs f)) (ap (λ ys. xs ++ ys) (sym next) ∙ walk)
    (has-append xs (f ∷ rest) f ∙ or_right _ _ (has_first f rest))

pub walk_end : (xs left whole : List Flow) → xs ++ left ≡ whole → left ≡ [] → xs ≡ whole
walk_end xs left whole walk end = sym (append-nil xs) ∙ ap (λ ys. xs ++ ys) (sym end) ∙ walk
