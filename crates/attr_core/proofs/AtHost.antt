-- An attribute that grows step by step, at one host of a list.
use Rattle.std.proofs.Common.{◌≡◌, ℕ, suc, ◌<◌, length, List, ◌∷◌, Option, Some, None, option_map, option_and_then, slice_index_or, slice_set, map, drop, get_or, ◌+◌, refl, sym, ap, ◌∙◌, arith}
use Rattle.std.proofs.lemmas.List.{get_or-set_same, set-set}
use Rattle.std.proofs.Math.Seq.{drop-cons}
use Rattle.table_core.specs.inner.Listing.{grow}

map_again : {A : Type 0} (xs : List A) (i : ℕ) (x : A) (o : Option A) → option_map (slice_set (slice_set xs i x) i) o ≡ option_map (slice_set xs i) o
map_again xs i x None = refl
map_again xs i x (Some y) = ap Some (set-set xs i x y)

-- It begins with x at the host.
pub begun_at : {A D : Type 0} (step : A → D → Option A) (xs : List A) (i : ℕ) (x d : A) (es : List D) → i < length xs
    → option_map (slice_set (slice_set xs i x) i) (grow step (slice_index_or (slice_set xs i x) i d) es) ≡ option_map (slice_set xs i) (grow step x es)
begun_at step xs i x d es within =
    ap (λ y. option_map (slice_set (slice_set xs i x) i) (grow step y es)) (get_or-set_same xs i x d within) ∙ map_again xs i x (grow step x es)

-- One more step.
pub grown_at : {A D : Type 0} (step : A → D → Option A) (xs : List A) (i : ℕ) (x d : A) (e : D) (es : List D) → i < length xs → step (slice_index_or xs i d) e ≡ Some x
    → option_map (slice_set (slice_set xs i x) i) (grow step (slice_index_or (slice_set xs i x) i d) es) ≡ option_map (slice_set xs i) (grow step (slice_index_or xs i d) (e ∷ es))
grown_at step xs i x d e es within is =
    begun_at step xs i x d es within ∙ ap (λ o. option_map (slice_set xs i) (option_and_then (λ y. grow step y es) o)) (sym is)

-- The elements from one on are that one and those after it.
pub rest_from : {V D : Type 0} (f : V → D) (vs : List V) (j : ℕ) (v : V) → j < length vs → v ≡ get_or vs j v → f v ∷ map f (drop (j + 1) vs) ≡ map f (drop j vs)
rest_from f vs j v within is =
    let next : j + 1 ≡ suc j = omega arith in
    (λ i. f (is i) ∷ map f (drop (next i) vs)) ∙ sym (ap (map f) (drop-cons vs j v within))
