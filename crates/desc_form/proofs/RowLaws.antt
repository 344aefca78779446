-- A condition refuses nothing if and only if a test passes, form by form: a single test, a test of each element or of each pair, a search
-- in each element in order, and several conditions in order. A test passes if and only if the facts hold.
use Rattle.std.proofs.Common.{◌≡◌, ◌≢◌, ◌↔◌, ℕ, ◌+◌, ◌≤◌, Bool, true, false, not, ◌&&◌, nat_lt, List, [], ◌∷◌, Option, None, option_map, refl, sym, ap, ◌∙◌, arith}
use Rattle.std.proofs.lemmas.Bool.{and_from, and_parts, false≢true}
use Rattle.std.proofs.lemmas.Bool.Decides.{nat_tests}
use Rattle.std.proofs.lemmas.Slice.Eq.{bytes_eq-Decides}
use Rattle.std.specs.List.{All, AllByRecursion, AllPairs, find, list_all}
use Rattle.std.specs.Str.{bytes_eq}
use Rattle.desc_form.proofs.NoneLaws.{all_tested, no_pair_tested, none_of_both, none_tested, tested_by, testing, unbarred, unfound}
use Rattle.text_core.specs.FirstMatch.{Numbered, Conflict, first_found, first_of, first_conflict, numbered, numbered_from}
use Rattle.text_core.proofs.FirstsLaws.{all_numbered, neither, no_pair_numbered, none_barred, none_found, none_mapped}
use Rattle.text_core.specs.inner.Pairs.{no_pair}

pub then_words : {A B C : Type 0} → (A ↔ B) → (B ↔ C) → A ↔ C
then_words first second = (λ a. second.0 (first.0 a), λ c. first.1 (second.1 c))

pub as_it_is : {A : Type 0} → A ↔ A
as_it_is = (λ a. a, λ a. a)

pub same_test : {a b : Bool} → a ≡ b → (a ≡ true) ↔ (b ≡ true)
same_test same = (λ h. sym same ∙ h, λ h. same ∙ h)

-- ---- the facts of a test

pub not_words : (b : Bool) → (not b ≡ false) ↔ (b ≡ true)
not_words true = (λ h. refl, λ h. refl)
not_words false = (λ h. cc, λ h. cc)

-- A test that fails, for a test that decides a fact.
pub never_words : (b : Bool) (P : Type 0) → (b ≡ true → P) → (P → b ≡ true) → (b ≡ false) ↔ (P → ⊥)
never_words true P says said = (λ h. cc, λ never. absurd (never (says refl)))
never_words false P says said = (λ h p. false≢true (said p), λ never. refl)

pub and_words : {P Q : Type 0} (a b : Bool) → ((a ≡ true) ↔ P) → ((b ≡ true) ↔ Q) → ((a && b) ≡ true) ↔ (P × Q)
and_words a b first second = (
  λ h. let (here, there) = and_parts a b h in (first.0 here, second.0 there),
  λ (p, q). and_from a b (first.1 p) (second.1 q),
)

small : (limit n : ℕ) → nat_lt limit n ≡ false → n ≤ limit
small limit n h = grind (arith, nat_tests)

not_beyond : (limit n : ℕ) → n ≤ limit → nat_lt limit n ≡ false
not_beyond limit n h = grind (arith, nat_tests)

pub few_words : (limit n : ℕ) → (nat_lt limit n ≡ false) ↔ (n ≤ limit)
few_words limit n = (small limit n, not_beyond limit n)

pub unequal_words : (a b : List ℕ) → (bytes_eq a b ≡ false) ↔ (a ≢ b)
unequal_words a b = let same = bytes_eq-Decides a b in never_words (bytes_eq a b) (a ≡ b) same.0 same.1

-- The same, with the two arguments exchanged.
pub differ_words : (a b : List ℕ) → (bytes_eq b a ≡ false) ↔ (a ≢ b)
differ_words a b =
    let same = bytes_eq-Decides b a in
    never_words (bytes_eq b a) (a ≡ b) (λ t. sym (same.0 t)) (λ e. same.1 (sym e))

-- ---- the facts of a test of each element, or of each pair

weaker : {A : Type 0} (P Q : A → Type 0) (xs : List A) → ((x : A) → P x → Q x) → All P xs → All Q xs
weaker P Q xs step all = λ k d within. step _ (all k d within)

weaker_pairs : {A : Type 0} (P Q : A → A → Type 0) (xs : List A) → ((x y : A) → P x y → Q x y) → AllPairs P xs → AllPairs Q xs
weaker_pairs P Q xs step pairs = λ i j d before within. step _ _ (pairs i j d before within)

all_words : {A : Type 0} (P Q : A → Type 0) (xs : List A) → ((x : A) → P x ↔ Q x) → All P xs ↔ All Q xs
all_words P Q xs step = (weaker P Q xs (λ x. (step x).0), weaker Q P xs (λ x. (step x).1))

pub each_says : {A : Type 0} (p : A → Bool) (P : A → Type 0) → ((x : A) → (p x ≡ true) ↔ P x) → (xs : List A)
    → (list_all p xs ≡ true) ↔ All P xs
each_says p P says xs = then_words (all_tested p xs) (all_words (λ x. p x ≡ true) P xs says)

pub none_says : {A : Type 0} (p : A → Bool) (P : A → Type 0) → ((x : A) → (p x ≡ false) ↔ P x) → (xs : List A)
    → (list_all (λ x. not (p x)) xs ≡ true) ↔ All P xs
none_says p P says xs = then_words (none_tested p xs) (all_words (λ x. p x ≡ false) P xs says)

pub pairs_say : {A : Type 0} (r : A → A → Bool) (R : A → A → Type 0) → ((x y : A) → (r y x ≡ false) ↔ R x y) → (xs : List A)
    → (no_pair r xs ≡ true) ↔ AllPairs R xs
pairs_say r R say xs =
    then_words (no_pair_tested r xs)
    (weaker_pairs (λ x y. r y x ≡ false) R xs (λ x y. (say x y).0), weaker_pairs R (λ x y. r y x ≡ false) xs (λ x y. (say x y).1))

-- ---- conditions that refuse nothing

-- The first element that satisfies a test.
pub each_row : {A B : Type 0} (p : A → Bool) (tell : A → B) (xs : List A)
    → (option_map tell (find p xs) ≡ None) ↔ (list_all (λ x. not (p x)) xs ≡ true)
each_row p tell xs = (λ none. none_found p xs (none_mapped tell (find p xs) none), λ all. ap (option_map tell) (unfound p xs all))

pub numbered_row : {A B : Type 0} (p : A → Bool) (tell : Numbered A → B) (xs : List A)
    → (option_map tell (find (λ n. p n.what) (numbered xs)) ≡ None) ↔ (list_all (λ x. not (p x)) xs ≡ true)
numbered_row p tell xs =
    then_words (each_row (λ n. p n.what) tell (numbered xs)) (same_test (all_numbered (λ x. not (p x)) 1 xs))

not_twice : (b : Bool) → not (not b) ≡ b
not_twice true = refl
not_twice false = refl

pub all_twice : {A : Type 0} (p : A → Bool) (xs : List A) → list_all (λ x. not (not (p x))) xs ≡ list_all p xs
all_twice p xs = λ k. list_all (λ x. not_twice (p x) k) xs

-- The first element that fails a test.
pub passed_row : {A B : Type 0} (p : A → Bool) (tell : A → B) (xs : List A)
    → (option_map tell (find (λ x. not (p x)) xs) ≡ None) ↔ (list_all p xs ≡ true)
passed_row p tell xs = then_words (each_row (λ x. not (p x)) tell xs) (same_test (all_twice p xs))

-- The first element that conflicts with an earlier one.
pub pairs_row : {A B : Type 0} (bars : A → A → Bool) (tell : Conflict A → B) (xs : List A)
    → (option_map tell (first_conflict bars xs) ≡ None) ↔ (no_pair bars xs ≡ true)
pairs_row bars tell xs = (
  λ none. none_barred bars xs (none_mapped tell (first_conflict bars xs) none),
  λ apart. ap (option_map tell) (unbarred bars xs apart),
)

pub numbered_pairs_row : {A B : Type 0} (bars : A → A → Bool) (tell : Conflict (Numbered A) → B) (xs : List A)
    → (option_map tell (first_conflict (λ (x y : Numbered A). bars x.what y.what) (numbered xs)) ≡ None) ↔ (no_pair bars xs ≡ true)
numbered_pairs_row {A} bars tell xs =
    then_words (pairs_row (λ (x y : Numbered A). bars x.what y.what) tell (numbered xs)) (same_test (no_pair_numbered bars 1 xs))

-- The first finding in a list of elements.
abbrev pub nth : {A : Type 0} → ℕ → A → Numbered A
nth k x = record { number = k; what = x }

pub found_row : {A B : Type 0} (f : Numbered A → Option B) (P : A → Type 0) → ((k : ℕ) (x : A) → (f (nth k x) ≡ None) ↔ P x)
    → (k : ℕ) (xs : List A) → (first_found f (numbered_from k xs) ≡ None) ↔ AllByRecursion P xs
found_row f P says k [] = (λ none. tt, λ all. refl)
found_row f P says k (x ∷ xs) =
    let (later, none_later) = found_row f P says (k + 1) xs in (
      λ none. let (here, behind) = neither (f (nth k x)) (first_found f (numbered_from (k + 1) xs)) none in ((says k x).0 here, later behind),
      λ (here, behind). none_of_both (f (nth k x)) (first_found f (numbered_from (k + 1) xs)) ((says k x).1 here) (none_later behind),
    )

pub tested_row : {A B : Type 0} (f : Numbered A → Option B) (test : A → Bool) → ((k : ℕ) (x : A) → (f (nth k x) ≡ None) ↔ (test x ≡ true))
    → (xs : List A) → (first_found f (numbered xs) ≡ None) ↔ (list_all test xs ≡ true)
tested_row f test says xs = then_words (found_row f (λ x. test x ≡ true) says 1 xs) (testing test xs, tested_by test xs)

-- Several conditions in order.
pub in_turn : {A : Type 0} (os : List (Option A)) → (first_of os ≡ None) ↔ AllByRecursion (λ o. o ≡ None) os
in_turn [] = (λ none. tt, λ all. refl)
in_turn (o ∷ os) =
    let (later, none_later) = in_turn os in (
      λ none. let (here, behind) = neither o (first_of os) none in (here, later behind),
      λ (here, behind). none_of_both o (first_of os) here (none_later behind),
    )
