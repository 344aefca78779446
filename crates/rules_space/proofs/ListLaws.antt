-- Lists: their elements, and the elements that a loop has traversed.
use Rattle.std.proofs.Common.{◌≡◌, ◌⊎◌, inl, inr, ℕ, zero, suc, ◌+◌, ◌<◌, List, [], ◌∷◌, ◌++◌, length, get_or, take, sym, ap, ◌∙◌, arith}
use Rattle.std.specs.List.{Contains}
use Rattle.std.proofs.lemmas.List.{take_more}

pub contains_cases : {X : Type 0} (x : X) (xs : List X) (d : X) → Contains (x ∷ xs) d → (x ≡ d) ⊎ Contains xs d
contains_cases x xs d (zero, within, is) = inl is
contains_cases x xs d (suc k, within, is) = inr (k, omega arith, is)

pub contains_later : {X : Type 0} (x : X) (xs : List X) (d : X) → Contains xs d → Contains (x ∷ xs) d
contains_later x xs d (k, within, is) = (suc k, omega arith, is)

pub contains_none : {X : Type 0} (d : X) → Contains [] d → ⊥
contains_none d (k, within, is) = omega arith

pub contains_first : {X : Type 0} (x : X) (xs : List X) (d : X) → x ≡ d → Contains (x ∷ xs) d
contains_first x xs d is = (0, omega arith, is)

pub take_at : {X : Type 0} (xs : List X) (i : ℕ) (x : X) → i < length xs → x ≡ get_or xs i x → take (i + 1) xs ≡ take i xs ++ x ∷ []
take_at xs i x within here = take_more xs i x within ∙ ap (λ y. take i xs ++ y ∷ []) (sym here)
