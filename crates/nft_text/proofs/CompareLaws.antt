-- Bytes that are compared with a list of pieces, one piece after the other.
use Rattle.std.proofs.Common.{◌≡◌, ◌∙◌, ◌++◌, ◌&&◌, ℕ, Bool, true, false, List, [], ◌∷◌, length, take, refl, sym, ap}
use Rattle.std.specs.Prelude.{bytes_eq, drop, nat_eq}
use Rattle.std.specs.List.{concat}

and_again : (a b c : Bool) → (a && (b && c)) ≡ ((a && b) && c)
and_again true b c = refl
and_again false b c = refl

-- The bytes begin with the piece, and what follows equals the rest.
eq_split : (bytes piece rest : List ℕ)
    → bytes_eq bytes (piece ++ rest) ≡ (bytes_eq (take (length piece) bytes) piece && bytes_eq (drop (length piece) bytes) rest)
eq_split bytes [] rest = refl
eq_split [] (p ∷ piece) rest = refl
eq_split (b ∷ bytes) (p ∷ piece) rest =
    ap (λ (same : Bool). nat_eq b p && same) (eq_split bytes piece rest)
    ∙ and_again (nat_eq b p) (bytes_eq (take (length piece) bytes) piece) (bytes_eq (drop (length piece) bytes) rest)

pub same_behind : (bytes piece behind : List ℕ) (ps : List (List ℕ)) → bytes_eq (take (length piece) bytes) piece ≡ true
    → behind ≡ drop (length piece) bytes → bytes_eq bytes (concat (piece ∷ ps)) ≡ bytes_eq behind (concat ps)
same_behind bytes piece behind ps begins is =
    eq_split bytes piece (concat ps) ∙ ap (λ (same : Bool). same && bytes_eq (drop (length piece) bytes) (concat ps)) begins
    ∙ ap (λ (rest : List ℕ). bytes_eq rest (concat ps)) (sym is)

pub other_piece : (bytes piece : List ℕ) (ps : List (List ℕ)) → bytes_eq (take (length piece) bytes) piece ≡ false
    → bytes_eq bytes (concat (piece ∷ ps)) ≡ false
other_piece bytes piece ps differs =
    eq_split bytes piece (concat ps) ∙ ap (λ (same : Bool). same && bytes_eq (drop (length piece) bytes) (concat ps)) differs
