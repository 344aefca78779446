-- The count of the numbers below a limit for which a test is true, and these numbers for cuts and for protocols.
use Rattle.std.proofs.Common.{◌≡◌, ◌⊎◌, inl, inr, ℕ, zero, suc, ◌+◌, ◌<◌, ◌≤◌, ◌==◌, ◌&&◌, ◌||◌, Bool, true, false, cond, List, [], ◌∷◌, ◌++◌, get_or, length, nat_eq, refl, sym, ap, subst, ◌∙◌, arith, length-append}
use Rattle.std.specs.List.{All, AllPass, Contains, dedup, filter, list_all, range_with_len}
use Rattle.std.specs.List.Retain.{DiffersFromLast, IsFiltered}
use Rattle.std.specs.List.Sorted.{IsPermutation, IsSorted}
use Rattle.std.specs.Ordering.{nat_cmp}
use Rattle.std.proofs.lemmas.Bool.{or_left, or_right}
use Rattle.std.proofs.lemmas.Bool.Decides.{Decides-eqb, nat_tests}
use Rattle.std.specs.Prelude.{nat_lt}
use Rattle.std.proofs.lemmas.List.Elements.{All-contains, filter-append}
use Rattle.std.proofs.lemmas.List.Filters.{dedup_is}
use Rattle.std.proofs.lemmas.List.Folds.{Any-from_list_any, list_all-append, list_any-from_Any}
use Rattle.std.proofs.lemmas.List.Kept.{Contains-dedup_nat, Contains-from_dedup}
use Rattle.std.proofs.lemmas.List.Sorted.{Contains-permutation, IsPermutation-sym}
use Rattle.std.proofs.lemmas.List.Sums.{list_all-from_AllPass}
use Rattle.std.proofs.lemmas.Map.Keys.{IsStrictlyIncreasing-dedup}
use Rattle.audit_core.specs.Classes.{is_among, represents_protocol}
use Rattle.rules_space.specs.Numbers.{numbers_where}
use Rattle.rules_space.proofs.NumberLaws.{range_below, where_has, where_only, where_rises, where_short}
use Rattle.audit_core.proofs.OrderLemmas.{increasing_ext}

-- 1. The count of the numbers below a limit for which a test is true.

pub short_is : (test : ℕ → Bool) (limit n : ℕ) → n ≡ length (numbers_where test limit) → n ≤ limit
short_is test limit n is = let short = where_short test limit in omega (arith, is)

-- One more number.
range_from : (a n j : ℕ) → a + n ≡ j → range_with_len a (suc n) ≡ range_with_len a n ++ j ∷ []
range_from a zero j is = let same : a ≡ j = omega arith in ap (λ k. k ∷ []) same
range_from a (suc n) j is = ap (λ l. a ∷ l) (range_from (a + 1) n j (omega arith))

where_more : (test : ℕ → Bool) (n : ℕ) → length (numbers_where test (suc n)) ≡ length (numbers_where test n) + cond (test n) 1 0
unfolding numbers_where
where_more test n =
    let next = filter-append test (range_with_len 0 n) (n ∷ []) in
    ap (λ l. length (filter test l)) (range_from 0 n n (omega arith)) ∙ ap length next ∙ length-append (filter test (range_with_len 0 n)) _
    ∙ by_test (test n)
  where
    by_test : (b : Bool) → length (filter test (range_with_len 0 n)) + length (cond b (n ∷ []) []) ≡ length (filter test (range_with_len 0 n)) + cond b 1 0
    by_test true = refl
    by_test false = refl

-- 2. Numbers that a list contains.

pub among_has : (numbers : List ℕ) (n : ℕ) → Contains numbers n → is_among numbers n ≡ true
among_has numbers n there = list_any-from_Any (λ x. x == n) numbers (there.0, n, there.1, there.2, (Decides-eqb n n).1 refl)

among_only : (numbers : List ℕ) (n : ℕ) → is_among numbers n ≡ true → Contains numbers n
among_only numbers n is =
    let any = Any-from_list_any (λ x. x == n) numbers is in
    subst (λ (x : ℕ). Contains numbers x) ((Decides-eqb any.1 n).0 any.4) (any.0, any.2, any.3)

-- Numbers below a limit that are sorted, without duplicates, are the numbers of the list below the limit.
pub sorted_are : (old ordered new : List ℕ) (limit : ℕ) → IsPermutation old ordered → IsSorted nat_cmp ordered
    → IsFiltered (DiffersFromLast nat_eq) [] ordered new → All (λ x. x < limit) new → new ≡ numbers_where (is_among old) limit
sorted_are old ordered new limit moved sorted filtered below =
    increasing_ext new (numbers_where (is_among old) limit) (rw is (IsStrictlyIncreasing-dedup ordered sorted)) (where_rises (is_among old) limit)
    (λ c there. where_has (is_among old) limit c (All-contains (λ x. x < limit) new c below there) (among_has old c (back c there)))
    (λ c there. rw is (Contains-dedup_nat ordered c (Contains-permutation old ordered c moved (among_only old c (where_only (is_among old) limit c there).1))))
  where
    is : new ≡ dedup nat_eq ordered
    is = dedup_is nat_eq ordered new filtered

    back : (c : ℕ) → Contains new c → Contains old c
    back c there = Contains-permutation ordered old c (IsPermutation-sym old ordered moved) (Contains-from_dedup nat_eq ordered c (rw is at there))

-- 3. Representatives of protocols.

pub represents : (named : List ℕ) (c : ℕ) → Contains named c ⊎ ((d : ℕ) → d < c → Contains named d) → represents_protocol named c ≡ true
represents named c (inl there) = or_left (is_among named c) _ (among_has named c there)
represents named c (inr below) = or_right (is_among named c) _ (list_all-from_AllPass (is_among named) (range_with_len 0 c) all)
  where
    all : AllPass (is_among named) (range_with_len 0 c)
    all k d within = among_has named (get_or (range_with_len 0 c) k d) (below (get_or (range_with_len 0 c) k d) (range_below c k d within))

-- Of the numbers below n, t are named and r represent their classes. All n numbers are named, or one that is not represents the others.
abbrev HasCount : Bool → (t r n : ℕ) → Type 0
HasCount true t r n = (r ≡ t) × (t ≡ n)
HasCount false t r n = (r ≡ t + 1) × (t < n)

count_more : (all is : Bool) (t r n more others : ℕ) → HasCount all t r n → more ≡ t + cond is 1 0 → others ≡ r + cond (is || all) 1 0
    → HasCount (all && is) more others (suc n)
count_more true true t r n more others has one two = (omega arith, omega arith)
count_more true false t r n more others has one two = (omega arith, omega arith)
count_more false true t r n more others has one two = (omega arith, omega arith)
count_more false false t r n more others has one two = (omega arith, omega arith)

module _ (named : List ℕ) where
  all_more : (n : ℕ) → list_all (is_among named) (range_with_len 0 (suc n)) ≡ (list_all (is_among named) (range_with_len 0 n) && is_among named n)
  all_more n =
      ap (list_all (is_among named)) (range_from 0 n n (omega arith)) ∙ list_all-append (is_among named) (range_with_len 0 n) (n ∷ [])
      ∙ ap (λ b. list_all (is_among named) (range_with_len 0 n) && b) (and_true (is_among named n))
    where
      and_true : (b : Bool) → (b && true) ≡ b
      and_true true = refl
      and_true false = refl

  counted : (n : ℕ) → HasCount (list_all (is_among named) (range_with_len 0 n)) (length (numbers_where (is_among named) n)) (length (numbers_where (represents_protocol named) n)) n
  unfolding numbers_where
  counted zero = (refl, refl)
  counted (suc n) =
      subst (λ (b : Bool). HasCount b (length (numbers_where (is_among named) (suc n))) (length (numbers_where (represents_protocol named) (suc n))) (suc n))
      (sym (all_more n))
      (count_more (list_all (is_among named) (range_with_len 0 n)) (is_among named n) (length (numbers_where (is_among named) n))
      (length (numbers_where (represents_protocol named) n)) n (length (numbers_where (is_among named) (suc n)))
      (length (numbers_where (represents_protocol named) (suc n))) (counted n) (where_more (is_among named) n) (where_more (represents_protocol named) n))

  -- The protocols that are named represent their classes. If some are not named, one of them represents the others.
  pub protocol_count : (n : ℕ) → length (numbers_where (represents_protocol named) n) ≡ length (numbers_where (is_among named) n) + cond (nat_lt (length (numbers_where (is_among named) n)) n) 1 0
  protocol_count n = by_all (list_all (is_among named) (range_with_len 0 n)) (counted n)
    where
      by_all : (all : Bool) → HasCount all (length (numbers_where (is_among named) n)) (length (numbers_where (represents_protocol named) n)) n
          → length (numbers_where (represents_protocol named) n) ≡ length (numbers_where (is_among named) n) + cond (nat_lt (length (numbers_where (is_among named) n)) n) 1 0
      by_all true has = grind (arith, nat_tests)
      by_all false has = grind (arith, nat_tests)
