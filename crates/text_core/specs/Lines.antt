-- The lines of a text, and the tokens of a line. Lines end at byte 10, which the last line may lack; blanks are the bytes 32 and 9.
use Rattle.std.specs.Prelude.{ℕ, Bool, true, false, ◌||◌, ◌==◌, if◌then◌else◌, List, [], ◌∷◌}
use Rattle.std.specs.List.{onto_first}

-- The lines of a text.
abbrev pub lines : List ℕ → List (List ℕ)
lines [] = []
lines (b ∷ bs) = if b == 10 then [] ∷ lines bs else onto_first b (lines bs)

-- A blank: byte 32 or 9.
abbrev pub is_blank : ℕ → Bool
is_blank b = b == 32 || b == 9

-- A token ends before a blank and at the end of the line.
abbrev pub ends_word : List ℕ → Bool
ends_word [] = true
ends_word (b ∷ bs) = is_blank b

-- The tokens of a line: the maximal runs of bytes other than blanks.
abbrev pub words : List ℕ → List (List ℕ)
words [] = []
words (b ∷ bs) = if is_blank b then words bs else if ends_word bs then (b ∷ []) ∷ words bs else onto_first b (words bs)

-- The string begins with this byte.
abbrev pub begins_with : ℕ → List ℕ → Bool
begins_with mark [] = false
begins_with mark (b ∷ bs) = b == mark

-- The tokens of a comment.
abbrev pub are_comment : List (List ℕ) → Bool
are_comment [] = true
are_comment (w ∷ ws) = begins_with 35 w

-- A comment is a line without tokens, or a line whose first token begins with `#` (35).
unfoldable pub is_comment : List ℕ → Bool
is_comment line = are_comment (words line)
