-- Requirements on a list format, by which a file has either a parse result or a first error.
use Rattle.std.specs.Prelude.{◌≡◌, ℕ, List}
use Rattle.text_core.specs.ListFormat.{ListFormat}

-- A line encodes at most one entry.
abbrev pub EncodesAtMostOne : {E : Type 0} → ListFormat E → Type 0
EncodesAtMostOne {E = E} list = (n : ℕ) (line : List ℕ) (x y : E) → list.Tells n line x → list.Tells n line y → x ≡ y

-- A line that encodes an entry has the shape of one.
abbrev pub EncodesOnlyWellFormed : {E : Type 0} → ListFormat E → Type 0
EncodesOnlyWellFormed {E = E} list = (n : ℕ) (line : List ℕ) (x : E) → list.Tells n line x → list.HasForm line
