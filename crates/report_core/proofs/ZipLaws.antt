-- Lemmas on lists whose elements correspond pairwise.
use Rattle.std.proofs.Common.{◌≡◌, List, [], ◌∷◌, refl}
use Rattle.std.specs.List.{AllZip}

-- If an element has at most one partner, so does a list.
pub zip_once : {A B : Type 0} (R : A → B → Type 0) → ((x : A) (y z : B) → R x y → R x z → y ≡ z) → (xs : List A) (ys zs : List B)
    → AllZip R xs ys → AllZip R xs zs → ys ≡ zs
zip_once R once [] [] [] a b = refl
zip_once R once [] [] (z ∷ zs) a b = absurd b
zip_once R once [] (y ∷ ys) zs a b = absurd a
zip_once R once (x ∷ xs) [] zs a b = absurd a
zip_once R once (x ∷ xs) (y ∷ ys) [] a b = absurd b
zip_once R once (x ∷ xs) (y ∷ ys) (z ∷ zs) a b = λ i. once x y z a.0 b.0 i ∷ zip_once R once xs ys zs a.1 b.1 i

pub zip_weaker : {A B : Type 0} (R S : A → B → Type 0) → ((x : A) (y : B) → R x y → S x y) → (xs : List A) (ys : List B)
    → AllZip R xs ys → AllZip S xs ys
zip_weaker R S weaker [] [] zipped = tt
zip_weaker R S weaker [] (y ∷ ys) zipped = absurd zipped
zip_weaker R S weaker (x ∷ xs) [] zipped = absurd zipped
zip_weaker R S weaker (x ∷ xs) (y ∷ ys) zipped = (weaker x y zipped.0, zip_weaker R S weaker xs ys zipped.1)
