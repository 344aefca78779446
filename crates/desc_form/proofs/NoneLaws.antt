-- A search that finds nothing, as facts: if and only if each element fails its test, or each pair of elements does.
use Rattle.std.proofs.Common.{◌≡◌, ◌↔◌, ℕ, zero, suc, ◌<◌, Bool, true, false, not, ◌&&◌, List, [], ◌∷◌, ◌++◌, Option, None, refl, ap, arith}
use Rattle.std.proofs.lemmas.Bool.{and_from, and_parts}
use Rattle.std.proofs.lemmas.List.Elements.{All-from_recursion, recursion_from_All}
use Rattle.std.proofs.lemmas.List.Kept.{AllPairs-cons}
use Rattle.std.specs.List.{All, AllByRecursion, AllPairs, find, list_all}
use Rattle.std.specs.Option.{option_or}
use Rattle.text_core.specs.FirstMatch.{first_conflict, first_conflict_after, some_if}
use Rattle.text_core.specs.inner.Pairs.{no_pair}
use Rattle.text_core.proofs.FirstsLaws.{holds_not}
use Rattle.text_core.proofs.ConflictLaws.{list_all-push}

not_true : (b : Bool) → not b ≡ true → b ≡ false
not_true true h = cc
not_true false h = refl

-- A test of each element.
pub tested_by : {A : Type 0} (p : A → Bool) (xs : List A) → list_all p xs ≡ true → AllByRecursion (λ x. p x ≡ true) xs
tested_by p [] h = tt
tested_by p (x ∷ xs) h = let (here, behind) = and_parts (p x) (list_all p xs) h in (here, tested_by p xs behind)

pub testing : {A : Type 0} (p : A → Bool) (xs : List A) → AllByRecursion (λ x. p x ≡ true) xs → list_all p xs ≡ true
testing p [] all = refl
testing p (x ∷ xs) (here, behind) = and_from (p x) (list_all p xs) here (testing p xs behind)

pub all_tested : {A : Type 0} (p : A → Bool) (xs : List A) → (list_all p xs ≡ true) ↔ All (λ x. p x ≡ true) xs
all_tested p xs = (
  λ h. All-from_recursion (λ x. p x ≡ true) xs (tested_by p xs h),
  λ all. testing p xs (recursion_from_All (λ x. p x ≡ true) xs all),
)

pub none_tested : {A : Type 0} (p : A → Bool) (xs : List A) → (list_all (λ x. not (p x)) xs ≡ true) ↔ All (λ x. p x ≡ false) xs
none_tested p xs =
    let tested = all_tested (λ x. not (p x)) xs in
    (λ h k d within. not_true _ (tested.0 h k d within), λ all. tested.1 (λ k d within. ap not (all k d within)))

-- A test of each pair of elements.
none_below : (j : ℕ) → j < 0 → ⊥
none_below j h = omega arith

first_with : {A : Type 0} (R : A → A → Type 0) (x : A) (xs : List A) → AllPairs R (x ∷ xs) → All (R x) xs
first_with R x xs pairs = λ k d within. pairs zero (suc k) d (omega arith) (omega arith)

pairs_behind : {A : Type 0} (R : A → A → Type 0) (x : A) (xs : List A) → AllPairs R (x ∷ xs) → AllPairs R xs
pairs_behind R x xs pairs = λ i j d before within. pairs (suc i) (suc j) d (omega arith) (omega arith)

pairs_tested : {A : Type 0} (r : A → A → Bool) (xs : List A) → no_pair r xs ≡ true → AllPairs (λ x y. r y x ≡ false) xs
pairs_tested r [] h = λ i j d before within. absurd (none_below j within)
pairs_tested r (x ∷ xs) h =
    let (here, behind) = and_parts (list_all (λ y. not (r y x)) xs) (no_pair r xs) h in
    AllPairs-cons (λ x y. r y x ≡ false) x xs ((none_tested (λ y. r y x) xs).0 here) (pairs_tested r xs behind)

pairs_testing : {A : Type 0} (r : A → A → Bool) (xs : List A) → AllPairs (λ x y. r y x ≡ false) xs → no_pair r xs ≡ true
pairs_testing r [] pairs = refl
pairs_testing r (x ∷ xs) pairs =
    and_from (list_all (λ y. not (r y x)) xs) (no_pair r xs)
    ((none_tested (λ y. r y x) xs).1 (first_with (λ x y. r y x ≡ false) x xs pairs))
    (pairs_testing r xs (pairs_behind (λ x y. r y x ≡ false) x xs pairs))

pub no_pair_tested : {A : Type 0} (r : A → A → Bool) (xs : List A) → (no_pair r xs ≡ true) ↔ AllPairs (λ x y. r y x ≡ false) xs
no_pair_tested r xs = (pairs_tested r xs, pairs_testing r xs)

-- The converse of the lemmas on first matches: an element that satisfies no test is not found, and without a conflicting element there is
-- no pair.
pub unfound : {A : Type 0} (p : A → Bool) (xs : List A) → list_all (λ x. not (p x)) xs ≡ true → find p xs ≡ None
unfound p [] h = refl
unfound p (x ∷ xs) h =
    let (here, behind) = and_parts (not (p x)) _ h in
    rw (not_true (p x) here) (unfound p xs behind)

each_of_both : {A : Type 0} (p q : A → Bool) (xs : List A)
    → list_all (λ x. p x && q x) xs ≡ true → (list_all p xs ≡ true) × (list_all q xs ≡ true)
each_of_both p q [] h = (refl, refl)
each_of_both p q (x ∷ xs) h =
    let (here, behind) = and_parts (p x && q x) _ h in
    let (first, second) = and_parts (p x) (q x) here in
    let (firsts, seconds) = each_of_both p q xs behind in
    (and_from (p x) (list_all p xs) first firsts, and_from (q x) (list_all q xs) second seconds)

unbarred_behind : {A : Type 0} (bars : A → A → Bool) (before xs : List A) → no_pair bars xs ≡ true
    → list_all (λ y. list_all (λ x. not (bars x y)) xs) before ≡ true → first_conflict_after bars before xs ≡ None
unbarred_behind bars before [] apart unbarring = refl
unbarred_behind {A} bars before (x ∷ xs) apart unbarring =
    let rest : A → Bool = λ y. list_all (λ z. not (bars z y)) xs in
    let (own, behind) = and_parts (rest x) (no_pair bars xs) apart in
    let (here, later) = each_of_both (λ y. not (bars x y)) rest before unbarring in
    rw (unfound (bars x) before here) (unbarred_behind bars (before ++ x ∷ []) xs behind (list_all-push rest before x later own))

pub unbarred : {A : Type 0} (bars : A → A → Bool) (xs : List A) → no_pair bars xs ≡ true → first_conflict bars xs ≡ None
unbarred bars xs apart = unbarred_behind bars [] xs apart refl

-- A condition that is reported if a test holds, and two conditions in order.
pub none_where : {A : Type 0} (holds : Bool) (x : A) → (some_if holds x ≡ None) ↔ (holds ≡ false)
none_where holds x = (holds_not holds x, λ not_here. rw not_here refl)

pub none_of_both : {A : Type 0} (o p : Option A) → o ≡ None → p ≡ None → option_or o p ≡ None
none_of_both o p first second = rw (first, second) refl
