-- Rules in ascending order, and the first one that does not precede another rule.
use Rattle.std.proofs.Common.{◌≡◌, inl, inr, ℕ, zero, suc, ◌<◌, ◌≤◌, Bool, true, false, ◌||◌, List, [], ◌∷◌, get_or, length, refl, sym, ◌∙◌, arith}
use Rattle.std.specs.List.Sorted.{IsPartitionedBy}
use Rattle.std.proofs.lemmas.Bool.{false≢true}
use Rattle.std.proofs.lemmas.Bool.Decides.{nat_tests}
use Rattle.ipt_rules.specs.declared.marks.Place.{Place}
use Rattle.pass_core.specs.Dead.{AreAscending, ComesBefore, is_listed, same_place}
use Rattle.nft_flows.specs.inner.Search.{comes_before}

still_before : (x y r : Place) → ComesBefore x y → comes_before y r ≡ true → comes_before x r ≡ true
still_before x y r (inl chain) on = grind (arith, nat_tests, on, chain)
still_before x y r (inr (chain, rule)) on = grind (arith, nat_tests, on, chain, rule)

before_same : (x y r : Place) → ComesBefore x y → same_place y r ≡ true → comes_before x r ≡ true
before_same x y r (inl chain) on = grind (arith, nat_tests, on, chain)
before_same x y r (inr (chain, rule)) on = grind (arith, nat_tests, on, chain, rule)

not_itself : (x r : Place) → comes_before x r ≡ true → same_place x r ≡ false
not_itself x r on = grind (arith, nat_tests, on)

pub parted : (r : Place) (xs : List Place) → AreAscending xs → IsPartitionedBy (λ x. comes_before x r) xs
parted r [] are i j d low there on = absurd (omega (arith, there))
parted r (x ∷ xs) are zero zero d low there on = on
parted r (x ∷ []) are zero (suc j) d low there on = absurd (omega (arith, there))
parted r (x ∷ y ∷ xs) are zero (suc j) d low there on =
    still_before x y r are.0 (parted r (y ∷ xs) are.1 zero j d (omega arith) (omega (arith, there)) on)
parted r (x ∷ xs) are (suc i) zero d low there on = absurd (omega (arith, low))
parted r (x ∷ xs) are (suc i) (suc j) d low there on = parted r xs are.1 i j d (omega (arith, low)) (omega (arith, there)) on

-- A rule that a list may have after x, which does not precede it.
not_later : (r x : Place) (xs : List Place) → AreAscending (x ∷ xs) → comes_before x r ≡ false
    → ((k : ℕ) (d : Place) → k < length xs → comes_before (get_or xs k d) r ≡ false) → is_listed xs r ≡ false
not_later r x [] are off others = refl
not_later r x (y ∷ ys) are off others = by_first (same_place y r) refl
    (not_later r y ys are.1 (others 0 y (omega arith)) (λ k d low. others (suc k) d (omega (arith, low))))
  where
    by_first : (b : Bool) → same_place y r ≡ b → is_listed ys r ≡ false → (b || is_listed ys r) ≡ false
    by_first true is later = absurd (false≢true (sym off ∙ before_same x y r are.0 is))
    by_first false is later = later

pub found_or_not : (r : Place) (xs : List Place) (i : ℕ) (d : Place) → AreAscending xs
    → ((k : ℕ) (d : Place) → 0 ≤ k → k < i → comes_before (get_or xs k d) r ≡ true)
    → ((k : ℕ) (d : Place) → i ≤ k → k < length xs → comes_before (get_or xs k d) r ≡ false)
    → i < length xs → same_place (get_or xs i d) r ≡ is_listed xs r
found_or_not r [] i d are before behind low = absurd (omega (arith, low))
found_or_not r (x ∷ xs) zero d are before behind low = by_first (same_place x r) refl
    (not_later r x xs are (behind 0 x (omega arith) (omega arith)) (λ k e there. behind (suc k) e (omega arith) (omega (arith, there))))
  where
    by_first : (b : Bool) → same_place x r ≡ b → is_listed xs r ≡ false → b ≡ (b || is_listed xs r)
    by_first true is later = refl
    by_first false is later = sym later
found_or_not r (x ∷ xs) (suc i) d are before behind low =
    found_or_not r xs i d (tail xs are) (λ k e at there. before (suc k) e (omega arith) (omega (arith, there)))
    (λ k e at there. behind (suc k) e (omega (arith, at)) (omega (arith, there))) (omega (arith, low))
    ∙ (λ j. sym (not_itself x r (before 0 x (omega arith) (omega arith))) j || is_listed xs r)
  where
    tail : (ys : List Place) → AreAscending (x ∷ ys) → AreAscending ys
    tail ys all = all.1

pub none_found : (r : Place) (xs : List Place) (i : ℕ) → ((k : ℕ) (d : Place) → 0 ≤ k → k < i → comes_before (get_or xs k d) r ≡ true)
    → length xs ≤ i → is_listed xs r ≡ false
none_found r [] i before past = refl
none_found r (x ∷ xs) zero before past = absurd (omega (arith, past))
none_found r (x ∷ xs) (suc i) before past =
    (λ j. not_itself x r (before 0 x (omega arith) (omega arith)) j || is_listed xs r)
    ∙ none_found r xs i (λ k e at there. before (suc k) e (omega arith) (omega (arith, there))) (omega (arith, past))
