-- Lemmas on lists that are parsed element by element.
use Rattle.std.proofs.Common.{◌≡◌, List, [], ◌∷◌, ◌++◌, append_assoc, Option, Some, None, option_map, option_and_then, refl, ap, ◌∙◌}
use Rattle.std.specs.List.{fold}
use Rattle.table_core.specs.Listing.{each}
use Rattle.table_core.specs.inner.Listing.{grow}

listed_more : {A : Type 0} (xs : List A) (x : A) (rest : Option (List A))
    → option_map (λ ys. (xs ++ x ∷ []) ++ ys) rest ≡ option_map (λ ys. xs ++ ys) (option_map (λ ys. x ∷ ys) rest)
listed_more xs x None = refl
listed_more xs x (Some ys) = ap Some (append_assoc xs (x ∷ []) ys)

-- A loop: the next element after those parsed so far is parsed as x.
pub each_more : {D A : Type 0} (read : D → Option A) (xs : List A) (x : A) (d : D) (ds : List D) (whole : Option (List A)) → read d ≡ Some x
    → option_map (λ ys. xs ++ ys) (each read (d ∷ ds)) ≡ whole → option_map (λ ys. (xs ++ x ∷ []) ++ ys) (each read ds) ≡ whole
each_more read xs x d ds whole is so_far = listed_more xs x (each read ds) ∙ (rw is at so_far)

grow_one : {S A : Type 0} (with : S → A → S) (s : S) (here : Option A) (rest : Option (List A))
    → option_and_then (λ t. option_map (fold with t) rest) (option_map (with s) here) ≡ option_map (fold with s) (option_and_then (λ x. option_map (λ xs. x ∷ xs) rest) here)
grow_one with s None rest = refl
grow_one with s (Some x) None = refl
grow_one with s (Some x) (Some xs) = refl

-- If the result of an element does not depend on those before it, all may be parsed first.
pub grow_each : {S D A : Type 0} (read : D → Option A) (with : S → A → S) (s : S) (ds : List D)
    → grow (λ t d. option_map (with t) (read d)) s ds ≡ option_map (fold with s) (each read ds)
grow_each read with s [] = refl
grow_each read with s (d ∷ ds) =
    ap (λ rest. option_and_then rest (option_map (with s) (read d))) (λ i t. grow_each read with t ds i) ∙ grow_one with s (read d) (each read ds)
