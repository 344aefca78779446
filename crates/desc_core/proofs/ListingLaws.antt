-- Parsing each element of a list, if each can be parsed; and the next element of a loop.
use Rattle.std.proofs.Common.{◌≡◌, ℕ, ◌+◌, ◌<◌, Bool, true, List, [], ◌∷◌, length, get_or, map, drop, drop-cons, add-one, Option, Some, None, is_some, refl, sym, ap, ◌∙◌}
use Rattle.std.proofs.lemmas.Bool.{and_parts}
use Rattle.std.specs.List.{AllZip, cons_option, filter_map, list_all}
use Rattle.std.specs.Option.{option_or}
use Rattle.text_core.specs.FirstMatch.{Numbered, first_found, numbered_from}

zip_by : {A B : Type 0} (f : A → Option B) (x : A) (xs : List A) (ys : List B) (o : Option B) → f x ≡ o → is_some o ≡ true → AllZip (λ x y. f x ≡ Some y) xs ys → AllZip (λ x y. f x ≡ Some y) (x ∷ xs) (cons_option o ys)
zip_by f x xs ys None is there rest = cc
zip_by f x xs ys (Some y) is there rest = (is, rest)

-- No element is skipped.
pub zip_some : {A B : Type 0} (f : A → Option B) (xs : List A) → list_all (λ x. is_some (f x)) xs ≡ true → AllZip (λ x y. f x ≡ Some y) xs (filter_map f xs)
zip_some f [] all = tt
zip_some f (x ∷ xs) all =
    let (here, behind) = and_parts (is_some (f x)) _ all in
    zip_by f x xs (filter_map f xs) (f x) refl here (zip_some f xs behind)

pub zip_there : {A B : Type 0} (f : A → Option B) (xs : List A) (ys : List B) → AllZip (λ x y. f x ≡ Some y) xs ys → list_all (λ x. is_some (f x)) xs ≡ true
zip_there f [] ys zipped = refl
zip_there f (x ∷ xs) [] zipped = absurd zipped
zip_there f (x ∷ xs) (y ∷ ys) zipped = rw (zipped.0, zip_there f xs ys zipped.1) refl

pub zip_weaker : {A B : Type 0} (R S : A → B → Type 0) (xs : List A) (ys : List B) → ((x : A) (y : B) → R x y → S x y) → AllZip R xs ys → AllZip S xs ys
zip_weaker R S [] [] weaker zipped = tt
zip_weaker R S [] (y ∷ ys) weaker zipped = absurd zipped
zip_weaker R S (x ∷ xs) [] weaker zipped = absurd zipped
zip_weaker R S (x ∷ xs) (y ∷ ys) weaker zipped = (weaker x y zipped.0, zip_weaker R S xs ys weaker zipped.1)

pub all_weaker : {A : Type 0} (p q : A → Bool) → ((x : A) → p x ≡ true → q x ≡ true) → (xs : List A) → list_all p xs ≡ true → list_all q xs ≡ true
all_weaker p q weaker [] all = refl
all_weaker p q weaker (x ∷ xs) all =
    let (here, behind) = and_parts (p x) _ all in
    rw (weaker x here, all_weaker p q weaker xs behind)

pub all_both : {A : Type 0} (p q r : A → Bool) → ((x : A) → p x ≡ true → q x ≡ true → r x ≡ true) → (xs : List A) → list_all p xs ≡ true → list_all q xs ≡ true → list_all r xs ≡ true
all_both p q r both [] all_p all_q = refl
all_both p q r both (x ∷ xs) all_p all_q =
    let (here_p, behind_p) = and_parts (p x) _ all_p in
    let (here_q, behind_q) = and_parts (q x) _ all_q in
    rw (both x here_p here_q, all_both p q r both xs behind_p behind_q)

-- The next element of a loop, and those after it.
pub next : {A : Type 0} (xs : List A) (i : ℕ) (x d : A) → i < length xs → x ≡ get_or xs i d → drop i xs ≡ x ∷ drop (i + 1) xs
next xs i x d within here = drop-cons xs i d within ∙ (λ j. sym here j ∷ drop (sym (add-one i) j) xs)

or_found : {B : Type 0} (here later : Option B) → is_some here ≡ true → option_or here later ≡ here
or_found None later found = cc
or_found (Some x) later found = refl

-- If there is a result for the next element, it is the first.
pub found_here : {V A B : Type 0} (f : Numbered A → Option B) (view : V → A) (xs : List V) (i : ℕ) (x : V) (found whole : Option B)
    → i < length xs → x ≡ get_or xs i x → found ≡ f (record { number = i + 1; what = view x }) → is_some found ≡ true
    → first_found f (numbered_from (i + 1) (map view (drop i xs))) ≡ whole → found ≡ whole
found_here f view xs i x found whole within is here some same =
    here
    ∙ sym (or_found (f (record { number = i + 1; what = view x })) (first_found f (numbered_from (i + 1 + 1) (map view (drop (i + 1) xs)))) (ap is_some (sym here) ∙ some))
    ∙ sym (ap (λ zs. first_found f (numbered_from (i + 1) (map view zs))) (next xs i x x within is))
    ∙ same
