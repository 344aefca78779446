-- The numbers below a limit for which a test is true: their members, their order and their count.
use Rattle.std.proofs.Common.{◌≡◌, ◌⊎◌, inl, inr, ℕ, ◌+◌, ◌<◌, ◌≤◌, Bool, true, false, cond, List, [], ◌∷◌, length, refl, sym, ap, ◌∙◌, arith, true≢false}
use Rattle.std.specs.List.{All, Contains, filter, range_with_len}
use Rattle.std.specs.List.Sorted.{IsStrictlyIncreasing}
use Rattle.std.proofs.lemmas.List.Elements.{All-contains, All-filter, filter_passes}
use Rattle.std.proofs.lemmas.List.FromFn.{get_or-range_with_len, length-range_with_len}
use Rattle.std.proofs.lemmas.List.Kept.{IsStrictlyIncreasing-filter}
use Rattle.std.proofs.lemmas.List.Sums.{count_by-le-length, length-filter}
use Rattle.rules_space.specs.Numbers.{numbers_where}
use Rattle.rules_space.proofs.ListLaws.{contains_cases, contains_first, contains_later}

range_has : (n c : ℕ) → c < n → Contains (range_with_len 0 n) c
range_has n c low = let long = length-range_with_len 0 n in let at = get_or-range_with_len 0 n c c low in (c, omega arith, omega arith)

pub range_below : (n : ℕ) → All (λ x. x < n) (range_with_len 0 n)
range_below n k d within =
    let long = length-range_with_len 0 n in
    let low : k < n = omega arith in
    let at = get_or-range_with_len 0 n k d low in
    omega arith

range_rises : (n : ℕ) → IsStrictlyIncreasing (range_with_len 0 n)
range_rises n k within =
    let long = length-range_with_len 0 n in
    let next : k + 1 < n = omega arith in
    let here = get_or-range_with_len 0 n k 0 (omega arith) in
    let there = get_or-range_with_len 0 n (k + 1) 0 next in
    omega arith

filter_has : (test : ℕ → Bool) (xs : List ℕ) (c : ℕ) → test c ≡ true → Contains xs c → Contains (filter test xs) c
filter_has test [] c is there = there
filter_has test (x ∷ xs) c is there = by_test (test x) refl (filter_has test xs c is) (contains_cases x xs c there)
  where
    by_test : (b : Bool) → test x ≡ b → (Contains xs c → Contains (filter test xs) c) → (x ≡ c) ⊎ Contains xs c
        → Contains (cond b (x ∷ filter test xs) (filter test xs)) c
    by_test true at rest (inl same) = contains_first x (filter test xs) c same
    by_test true at rest (inr later) = contains_later x (filter test xs) c (rest later)
    by_test false at rest (inl same) = absurd (true≢false (sym is ∙ ap test (sym same) ∙ at))
    by_test false at rest (inr later) = rest later

module _ (test : ℕ → Bool) (limit : ℕ) where
  pub where_has : (c : ℕ) → c < limit → test c ≡ true → Contains (numbers_where test limit) c
  unfolding numbers_where
  where_has c low is = filter_has test (range_with_len 0 limit) c is (range_has limit c low)

  pub where_only : (c : ℕ) → Contains (numbers_where test limit) c → (c < limit) × (test c ≡ true)
  unfolding numbers_where
  where_only c there =
      let range = range_with_len 0 limit in (
        All-contains (λ x. x < limit) (filter test range) c (All-filter test (λ x. x < limit) range (range_below limit)) there,
        All-contains (λ x. test x ≡ true) (filter test range) c (filter_passes test range) there,
      )

  pub where_rises : IsStrictlyIncreasing (numbers_where test limit)
  unfolding numbers_where
  where_rises = IsStrictlyIncreasing-filter test (range_with_len 0 limit) (range_rises limit)

  pub where_short : length (numbers_where test limit) ≤ limit
  unfolding numbers_where
  where_short =
      let range = range_with_len 0 limit in
      let all = length-range_with_len 0 limit in
      let many = length-filter test range in
      let fewer = count_by-le-length test range in
      omega arith
