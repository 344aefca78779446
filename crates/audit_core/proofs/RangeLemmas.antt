-- Lemmas on ranges: a range contains both of two numbers that no cut separates, or neither, and no cut separates a number from some cut.
use Rattle.std.proofs.Common.{◌≡◌, ◌⊎◌, inl, inr, ℕ, zero, suc, ◌+◌, ◌<◌, ◌≤◌, Bool, true, false, ◌==◌, List, [], ◌∷◌, refl, sym, subst, ◌∙◌, arith, true≢false}
use Rattle.std.specs.Prelude.{if◌then◌else◌, nat_lt}
use Rattle.std.specs.List.{Contains}
use Rattle.std.proofs.lemmas.Bool.Decides.{Decides-eqb, nat_tests}
use Rattle.std.proofs.lemmas.Bool.{cases_lt, cases_Bool}
use Rattle.rules_space.proofs.ListLaws.{contains_cases, contains_first, contains_later, contains_none}
use Rattle.audit_core.specs.Ranges.{range_cuts}
use Rattle.audit_core.specs.inner.Ranges.{AreOneProtocol, AreTogether, within}

pub same_test : (x y : Bool) → (x ≡ true → y ≡ true) → (y ≡ true → x ≡ true) → x ≡ y
same_test true y to back = sym (to refl)
same_test false true to back = back refl
same_test false false to back = refl

pub turn : (cuts : List ℕ) (a b : ℕ) → AreTogether cuts a b → AreTogether cuts b a
turn cuts a b together c there = ((together c there).1, (together c there).0)

pub within_parts : (first last a : ℕ) → within first last a ≡ true → (first ≤ a) × (a ≤ last)
within_parts first last a h = (grind (arith, nat_tests), grind (arith, nat_tests))

pub within_from : (first last a : ℕ) → first ≤ a → a ≤ last → within first last a ≡ true
within_from first last a low high = grind (arith, nat_tests)

-- If no cut separates two numbers and one is at most the end of the range, the other is at most the end too.
up_to_too : (limit first last a b : ℕ) → b < limit → AreTogether (range_cuts limit first last) a b → a ≤ last → b ≤ last
up_to_too limit first last a b fits together up_to = by_test (nat_lt (last + 1) limit) refl together
  where
    by_test : (t : Bool) → nat_lt (last + 1) limit ≡ t → AreTogether (first ∷ (if t then (last + 1) ∷ [] else [])) a b → b ≤ last
    by_test true is both = elim (cases_lt last b) [
      | inr h ↦ h
      | inl h ↦ let back = (both (last + 1) (contains_later first ((last + 1) ∷ []) (last + 1) (contains_first (last + 1) [] (last + 1) refl))).1 (omega arith) in absurd (omega arith)
    ]
    by_test false is both = grind (arith, nat_tests)

within_too : (limit first last a b : ℕ) → b < limit → AreTogether (range_cuts limit first last) a b → within first last a ≡ true → within first last b ≡ true
within_too limit first last a b fits together h =
    let parts = within_parts first last a h in
    within_from first last b ((together first (contains_first first _ first refl)).0 parts.0) (up_to_too limit first last a b fits together parts.1)

-- A range contains both of two numbers that its cuts do not separate, or neither.
pub within_alike : (limit first last a b : ℕ) → a < limit → b < limit → AreTogether (range_cuts limit first last) a b → within first last a ≡ within first last b
within_alike limit first last a b at bt together =
    same_test _ _ (within_too limit first last a b bt together) (within_too limit first last b a at (turn (range_cuts limit first last) a b together))

-- Protocols of one class are both equal to a named number, or both different from it.
pub named_alike : (named : List ℕ) (n a b : ℕ) → Contains named n → AreOneProtocol named a b → (n == a) ≡ (n == b)
named_alike named n a b there one =
    same_test (n == a) (n == b)
    (λ h. (Decides-eqb n b).1 ((one n there).0 ((Decides-eqb n a).0 h)))
    (λ h. (Decides-eqb n a).1 ((one n there).1 ((Decides-eqb n b).0 h)))

-- Membership of a number in a list is decidable.
pub is_in : (xs : List ℕ) (d : ℕ) → Contains xs d ⊎ (Contains xs d → ⊥)
is_in [] d = inr (contains_none d)
is_in (x ∷ xs) d = elim (cases_Bool (x == d)) [
  | inl same ↦ inl (contains_first x xs d ((Decides-eqb x d).0 same))
  | inr apart ↦ elim (is_in xs d) [
    | inl later ↦ inl (contains_later x xs d later)
    | inr none ↦ inr (λ there. elim (contains_cases x xs d there) [ inl is ↦ true≢false (sym ((Decides-eqb x d).1 is) ∙ apart) | inr later ↦ none later ])
  ]
]

-- The least number from c on that is not named, if n is not named and all numbers below c are named.
least_from : (named : List ℕ) (k c n : ℕ) → c + k ≡ n → (Contains named n → ⊥) → ((d : ℕ) → d < c → Contains named d) → (e : ℕ) × (e ≤ n) × (Contains named e → ⊥) × ((d : ℕ) → d < e → Contains named d)
least_from named zero c n is none below = (n, omega arith, none, λ d h. below d (omega arith))
least_from named (suc k) c n is none below =
    let later : ((d : ℕ) → d < c + 1 → Contains named d) → (e : ℕ) × (e ≤ n) × (Contains named e → ⊥) × ((d : ℕ) → d < e → Contains named d) = λ more. least_from named k (c + 1) n (omega arith) none more in
    elim (is_in named c) [
      | inl here ↦ later (λ d h. elim (cases_lt d c) [ inl less ↦ below d less | inr more ↦ subst (λ (x : ℕ). Contains named x) (omega arith) here ])
      | inr free ↦ (c, omega arith, free, below)
    ]

-- Each protocol is in one class with the least protocol of the class, which is no greater: a named number, or the least that is not named.
pub protocol_of : (named : List ℕ) (n : ℕ)
    → (c : ℕ) × (c ≤ n) × AreOneProtocol named c n × ((Contains named c → ⊥) → (d : ℕ) → (Contains named d → ⊥) → c ≤ d)
protocol_of named n = elim (is_in named n) [
  | inl there ↦ (n, omega arith, (λ m h. ((λ is. is), (λ is. is))), (λ none. absurd (none there)))
  | inr free ↦
      let found = least_from named n 0 n (omega arith) free (λ d h. absurd (omega arith)) in (
        found.0,
        found.1,
        (λ m h. ((λ is. absurd (found.2 (subst (λ (x : ℕ). Contains named x) is h))), (λ is. absurd (free (subst (λ (x : ℕ). Contains named x) is h))))),
        (λ none d apart. elim (cases_lt d found.0) [ inl less ↦ absurd (apart (found.3 d less)) | inr more ↦ more ]),
      )
]
