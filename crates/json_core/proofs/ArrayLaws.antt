-- Laws of arrays as text, item by item, and of values that are read from a list.
use Rattle.std.proofs.Common.{◌≡◌, ◌<◌, ◌+◌, ◌==◌, ℕ, suc, zero, length, get_or, take, arith, false, List, [], ◌∷◌, ◌++◌, refl, sym, ◌∙◌, ap, append_assoc, append-nil}
use Rattle.std.specs.Prelude.{codes, slice_get, Option, Some, None, option_map}
use Rattle.std.specs.Option.{option_map_or}
use Rattle.std.proofs.Math.Seq.{take-suc}
use Rattle.std.proofs.lemmas.Option.{slice_get_read}
use Rattle.std.proofs.lemmas.Bool.Decides.{nat_tests}
use Rattle.std.specs.List.{flat_map, range_with_len}
use Rattle.std.proofs.lemmas.Grind.{flat_map-append}
use Rattle.json_core.specs.Json.{comma, is_nothing, separated}

-- One item more.
pub separated-push : {A : Type 0} (item : A → List ℕ) (xs : List A) (x : A) → separated item (xs ++ x ∷ []) ≡ separated item xs ++ (comma (is_nothing xs) ++ item x)
unfolding separated
separated-push item [] x = append-nil (item x)
separated-push item (y ∷ ys) x =
    ap (λ zs. item y ++ zs) (flat_map-append (λ z. codes "," ++ item z) ys (x ∷ []) ∙ ap (λ zs. flat_map (λ z. codes "," ++ item z) ys ++ zs) (append-nil (codes "," ++ item x)))
    ∙ sym (append_assoc (item y) (flat_map (λ z. codes "," ++ item z) ys) (codes "," ++ item x))

-- The text with one item more at its end.
pub put_next : {A : Type 0} (item : A → List ℕ) (xs : List A) (x : A) (old now then last : List ℕ) → now ≡ old ++ separated item xs
    → then ≡ now ++ comma (is_nothing xs) → last ≡ then ++ item x → last ≡ old ++ separated item (xs ++ x ∷ [])
put_next item xs x old now then last so_far marked put =
    put
    ∙ ap (λ t. t ++ item x) (marked ∙ ap (λ t. t ++ comma (is_nothing xs)) so_far)
    ∙ append_assoc (old ++ separated item xs) (comma (is_nothing xs)) (item x)
    ∙ append_assoc old (separated item xs) (comma (is_nothing xs) ++ item x)
    ∙ ap (λ t. old ++ t) (sym (separated-push item xs x))

pub put_none : {A : Type 0} (item : A → List ℕ) (old : List ℕ) → old ≡ old ++ separated item []
unfolding separated
put_none item old = sym (append-nil old)

pub not_nothing : {A : Type 0} (xs : List A) (x : A) → false ≡ is_nothing (xs ++ x ∷ [])
not_nothing [] x = refl
not_nothing (y ∷ ys) x = refl

-- Only the first place has no item before it.
pub nothing_before : {A : Type 0} (xs : List A) (i : ℕ) → i < length xs → (i == 0) ≡ is_nothing (take i xs)
nothing_before [] i below = absurd (omega (arith, below))
nothing_before (x ∷ xs) zero below = refl
nothing_before (x ∷ xs) (suc i) below = grind (arith, nat_tests)

-- One item more, read at its place.
pub take_read : {A : Type 0} (xs : List A) (i : ℕ) (x : A) → i < length xs → x ≡ get_or xs i x → take (i + 1) xs ≡ take i xs ++ x ∷ []
take_read xs i x below read =
    let next : i + 1 ≡ suc i = omega arith in
    ap (λ k. take k xs) next ∙ take-suc xs i x below ∙ ap (λ y. take i xs ++ y ∷ []) (sym read)

-- The value of a function at an element of a list.
pub value_of : {A B : Type 0} (f : A → B) (o : Option A) (x d : B) → option_map f o ≡ Some x → option_map_or f o d ≡ x
value_of f (Some a) x d is = cc
value_of f None x d is = cc

pub value_at : {A B : Type 0} (f : A → B) (xs ys : List A) (i : ℕ) (x : A) (d : B) → ys ≡ xs → i < length ys → x ≡ get_or ys i x
    → option_map_or f (slice_get xs i) d ≡ f x
value_at f xs ys i x d same below read =
    ap (λ o. option_map_or f o d) (ap (λ zs. slice_get zs i) (sym same) ∙ slice_get_read ys (length ys) i x refl below read)

-- Numbers from a on, with one number more.
range_last : (a n : ℕ) → range_with_len a (suc n) ≡ range_with_len a n ++ (a + n) ∷ []
range_last a zero = ap (λ k. k ∷ []) (omega arith)
range_last a (suc n) = ap (λ xs. a ∷ xs) (range_last (a + 1) n ∙ ap (λ k. range_with_len (a + 1) n ++ k ∷ []) (omega arith))

pub range_next : (n : ℕ) → range_with_len 0 (n + 1) ≡ range_with_len 0 n ++ n ∷ []
range_next n =
    let next : n + 1 ≡ suc n = omega arith in
    let last : 0 + n ≡ n = omega arith in
    ap (λ k. range_with_len 0 k) next ∙ range_last 0 n ∙ ap (λ k. range_with_len 0 n ++ k ∷ []) last

-- Only the first number has no number before it.
pub range_first : (n : ℕ) → (n == 0) ≡ is_nothing (range_with_len 0 n)
range_first zero = refl
range_first (suc n) = grind (arith, nat_tests)
