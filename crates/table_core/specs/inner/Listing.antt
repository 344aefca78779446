-- Lists that are parsed element by element. If one element is invalid, the list is invalid.
use Rattle.std.specs.Prelude.{List, [], ◌∷◌, Option, Some, option_and_then}

-- A fallible fold: each element in order extends s, and its result may depend on the elements before it.
abbrev pub grow : {S D : Type 0} → (S → D → Option S) → S → List D → Option S
grow step s [] = Some s
grow step s (d ∷ ds) = option_and_then (λ t. grow step t ds) (step s d)
