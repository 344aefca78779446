-- Splitting a string at a separator.
use Rattle.std.specs.Prelude.{ℕ, ◌==◌, if◌then◌else◌, List, [], ◌∷◌, Option, Some, None}
use Rattle.std.specs.Option.{option_map}

-- The strings before and after the first separator.
abbrev pub split_once : ℕ → List ℕ → Option (List ℕ × List ℕ)
split_once mark [] = None
split_once mark (b ∷ bs) = if b == mark then Some ([], bs) else option_map (λ parts. (b ∷ parts.0, parts.1)) (split_once mark bs)
