-- The search for a conflicting element, extended by one element.
use Rattle.std.proofs.Common.{◌≡◌, ℕ, suc, ◌+◌, ◌<◌, ◌≤◌, Bool, true, false, List, [], ◌∷◌, ◌++◌, get_or, length, take, drop, drop-cons, add-one, find, Some, None, refl, sym, ap, ◌∙◌, arith}
use Rattle.std.proofs.Math.ListN.{drop_of_length-le}
use Rattle.std.proofs.lemmas.List.{length-take-le, take_more}
use Rattle.text_core.specs.FirstMatch.{Numbered, first_conflict_after, numbered, numbered_from}

-- The rest of a list begins with the element at the index.
pub drop_is : {A : Type 0} (xs : List A) (i : ℕ) (x : A) → i < length xs → x ≡ get_or xs i x → drop i xs ≡ x ∷ drop (suc i) xs
drop_is xs i x within e = drop-cons xs i x within ∙ ap (λ y. y ∷ drop (suc i) xs) (sym e)

rest_is : {A : Type 0} (xs : List A) (i : ℕ) (x : A) → i < length xs → x ≡ get_or xs i x → numbered_from (i + 1) (drop i xs) ≡ record { number = i + 1; what = x } ∷ numbered_from (i + 1 + 1) (drop (i + 1) xs)
rest_is xs i x within e =
    ap (numbered_from (i + 1)) (drop_is xs i x within e)
    ∙ ap (λ n. record { number = i + 1; what = x } ∷ numbered_from (i + 1 + 1) (drop n xs)) (sym (add-one i))

pub found_here : {A : Type 0} (p : A → Bool) (xs : List A) (i : ℕ) (x : A) → i < length xs → x ≡ get_or xs i x → p x ≡ true
    → find (λ (y : Numbered A). p y.what) (numbered_from (i + 1) (drop i xs)) ≡ Some (record { number = i + 1; what = x })
found_here {A} p xs i x within e here = rw (rest_is xs i x within e, here) refl

pub passed_here : {A : Type 0} (p : A → Bool) (xs : List A) (i : ℕ) (x : A) → i < length xs → x ≡ get_or xs i x → p x ≡ false
    → find (λ (y : Numbered A). p y.what) (numbered_from (i + 1 + 1) (drop (i + 1) xs)) ≡ find (λ y. p y.what) (numbered_from (i + 1) (drop i xs))
passed_here {A} p xs i x within e here = sym (rw (rest_is xs i x within e, here) refl)

pub nothing_left : {A : Type 0} (p : A → Bool) (xs : List A) (i : ℕ) → length xs ≤ i → find (λ (y : Numbered A). p y.what) (numbered_from (i + 1) (drop i xs)) ≡ None
nothing_left p xs i end = rw (drop_of_length-le xs end) refl

numbered_from-push : {A : Type 0} (k : ℕ) (xs : List A) (x : A) → numbered_from k (xs ++ x ∷ []) ≡ numbered_from k xs ++ record { number = k + length xs; what = x } ∷ []
numbered_from-push k [] x = ap (λ n. record { number = n; what = x } ∷ []) (omega arith)
numbered_from-push k (y ∷ xs) x =
    ap (λ ys. record { number = k; what = y } ∷ ys) (numbered_from-push (k + 1) xs x)
    ∙ ap (λ n. record { number = k; what = y } ∷ numbered_from (k + 1) xs ++ record { number = n; what = x } ∷ []) (omega arith)

front_is : {A : Type 0} (xs : List A) (i : ℕ) (x : A) → i < length xs → x ≡ get_or xs i x → numbered (take (i + 1) xs) ≡ numbered (take i xs) ++ record { number = i + 1; what = x } ∷ []
front_is xs i x within e =
    ap numbered (take_more xs i x within ∙ ap (λ y. take i xs ++ y ∷ []) (sym e))
    ∙ numbered_from-push 1 (take i xs) x
    ∙ ap (λ n. numbered (take i xs) ++ record { number = n; what = x } ∷ []) (omega (arith, length-take-le i xs (omega arith)))

-- The step of the search for a conflict.
pub pair_here : {A : Type 0} (test : A → A → Bool) (xs : List A) (i : ℕ) (x : A) (y : Numbered A) → i < length xs → x ≡ get_or xs i x
    → find (λ (z : Numbered A). test x z.what) (numbered (take i xs)) ≡ Some y
    → first_conflict_after (λ (a b : Numbered A). test a.what b.what) (numbered (take i xs)) (numbered_from (i + 1) (drop i xs)) ≡ Some (record { later = record { number = i + 1; what = x }; earlier = y })
pair_here {A} test xs i x y within e found = rw (rest_is xs i x within e, found) refl

pub pair_passed : {A : Type 0} (test : A → A → Bool) (xs : List A) (i : ℕ) (x : A) → i < length xs → x ≡ get_or xs i x
    → find (λ (z : Numbered A). test x z.what) (numbered (take i xs)) ≡ None
    → first_conflict_after (λ (a b : Numbered A). test a.what b.what) (numbered (take (i + 1) xs)) (numbered_from (i + 1 + 1) (drop (i + 1) xs))
    ≡ first_conflict_after (λ (a b : Numbered A). test a.what b.what) (numbered (take i xs)) (numbered_from (i + 1) (drop i xs))
pair_passed {A} test xs i x within e none = rw (front_is xs i x within e) (sym (rw (rest_is xs i x within e, none) refl))

pub no_pair_left : {A : Type 0} (r : Numbered A → Numbered A → Bool) (xs : List A) (i : ℕ) → length xs ≤ i → first_conflict_after r (numbered (take i xs)) (numbered_from (i + 1) (drop i xs)) ≡ None
no_pair_left r xs i end = rw (drop_of_length-le xs end) refl
