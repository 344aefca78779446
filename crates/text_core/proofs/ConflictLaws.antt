-- Lemmas on lists without conflicts, and on tests of all elements: parts of a list, and one more element.
use Rattle.std.proofs.Common.{◌≡◌, Bool, true, not, ◌&&◌, List, [], ◌∷◌, ◌++◌, map, refl, sym, ◌∙◌}
use Rattle.std.proofs.lemmas.Bool.{and_from, and_parts}
use Rattle.std.proofs.lemmas.List.Folds.{list_all-append, list_all-map}
use Rattle.std.specs.List.{list_all}
use Rattle.text_core.specs.inner.Pairs.{no_pair}

-- A list with one more element at its end has no conflict, if the element causes none.
pub no_pair-push : {A : Type 0} (r : A → A → Bool) (xs : List A) (y : A) → no_pair r xs ≡ true → list_all (λ x. not (r y x)) xs ≡ true → no_pair r (xs ++ y ∷ []) ≡ true
no_pair-push r [] y h new = refl
no_pair-push r (x ∷ xs) y h new =
    let old = and_parts (list_all (λ z. not (r z x)) xs) (no_pair r xs) h in
    let one = and_parts (not (r y x)) (list_all (λ z. not (r y z)) xs) new in
    let last : list_all (λ z. not (r z x)) (xs ++ y ∷ []) ≡ true =
    list_all-append (λ z. not (r z x)) xs (y ∷ [])
    ∙ and_from (list_all (λ z. not (r z x)) xs) (not (r y x) && true) old.0 (and_from (not (r y x)) true one.0 refl) in
    and_from (list_all (λ z. not (r z x)) (xs ++ y ∷ [])) (no_pair r (xs ++ y ∷ [])) last (no_pair-push r xs y old.1 one.1)

pub list_all-push : {A : Type 0} (p : A → Bool) (xs : List A) (y : A) → list_all p xs ≡ true → p y ≡ true → list_all p (xs ++ y ∷ []) ≡ true
list_all-push p xs y h new =
    list_all-append p xs (y ∷ []) ∙ and_from (list_all p xs) (p y && true) h (and_from (p y) true new refl)

-- The element after others conflicts with none of them.
pub alone_behind : {A : Type 0} (r : A → A → Bool) (xs : List A) (x : A) (ys : List A) → no_pair r (xs ++ x ∷ ys) ≡ true → list_all (λ y. not (r x y)) xs ≡ true
alone_behind r [] x ys h = refl
alone_behind r (z ∷ xs) x ys h =
    let (here, behind) = and_parts (list_all (λ y. not (r y z)) (xs ++ x ∷ ys)) _ h in
    let (_, from_x) = and_parts (list_all (λ y. not (r y z)) xs) _ (sym (list_all-append (λ y. not (r y z)) xs (x ∷ ys)) ∙ here) in
    let (at_x, _) = and_parts (not (r x z)) _ from_x in
    rw (at_x, alone_behind r xs x ys behind)

pub no_pair-front : {A : Type 0} (r : A → A → Bool) (xs ys : List A) → no_pair r (xs ++ ys) ≡ true → no_pair r xs ≡ true
no_pair-front r [] ys h = refl
no_pair-front r (x ∷ xs) ys h =
    let (here, behind) = and_parts (list_all (λ y. not (r y x)) (xs ++ ys)) _ h in
    let (front, _) = and_parts (list_all (λ y. not (r y x)) xs) _ (sym (list_all-append (λ y. not (r y x)) xs ys) ∙ here) in
    rw (front, no_pair-front r xs ys behind)

pub all_here : {A : Type 0} (p : A → Bool) (xs : List A) (x : A) (ys : List A) → list_all p (xs ++ x ∷ ys) ≡ true → p x ≡ true
all_here p xs x ys h =
    let (_, behind) = and_parts (list_all p xs) _ (sym (list_all-append p xs (x ∷ ys)) ∙ h) in
    let (here, _) = and_parts (p x) _ behind in here

pub no_pair-behind : {A : Type 0} (r : A → A → Bool) (xs ys : List A) → no_pair r (xs ++ ys) ≡ true → no_pair r ys ≡ true
no_pair-behind r [] ys h = h
no_pair-behind r (x ∷ xs) ys h = no_pair-behind r xs ys (and_parts (list_all (λ y. not (r y x)) (xs ++ ys)) (no_pair r (xs ++ ys)) h).1

-- For mapped elements.
pub no_pair-map : {A B : Type 0} (r : B → B → Bool) (f : A → B) (xs : List A) → no_pair r (map f xs) ≡ no_pair (λ x y. r (f x) (f y)) xs
no_pair-map r f [] = refl
no_pair-map r f (x ∷ xs) = rw (list_all-map (λ y. not (r y (f x))) f xs, no_pair-map r f xs)
