-- A word among the words of the code.
use Rattle.std.proofs.Common.{Bor, ◌||◌, ◌≡◌, ℕ, List, [], ◌∷◌, map, refl, ap}
use Rattle.std.specs.List.{list_any}
use Rattle.std.specs.Str.{bytes_eq}

pub among_now : (word : List ℕ) (words : List (Bor (List ℕ)))
    → list_any (λ other. bytes_eq word other.now) words ≡ list_any (bytes_eq word) (map (λ other. other.now) words)
among_now word [] = refl
among_now word (w ∷ ws) = ap (λ b. bytes_eq word w.now || b) (among_now word ws)
