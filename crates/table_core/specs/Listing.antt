-- Lists that are parsed element by element. If one element is invalid, the list is invalid.
use Rattle.std.specs.Prelude.{List, [], ◌∷◌, Option, Some, option_and_then, option_map}

-- The parse results of all elements, if each of them is valid.
abbrev pub each : {D A : Type 0} → (D → Option A) → List D → Option (List A)
each read [] = Some []
each read (d ∷ ds) = option_and_then (λ x. option_map (λ xs. x ∷ xs) (each read ds)) (read d)
