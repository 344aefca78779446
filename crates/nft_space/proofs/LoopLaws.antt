-- The part of a list that a loop has not reached.
use Rattle.std.proofs.Common.{◌≡◌, ◌∙◌, ◌+◌, ◌<◌, ℕ, suc, List, ◌∷◌, length, get_or, drop, drop-cons, add-one, sym, ap}

pub drop_item : {A : Type 0} (xs : List A) (i : ℕ) (x : A) → i < length xs → x ≡ get_or xs i x → drop i xs ≡ x ∷ drop (i + 1) xs
drop_item xs i x low is =
    rw (add-one i) (drop-cons xs i x low ∙ ap (λ y. y ∷ drop (suc i) xs) (sym is))
