-- The remainder of a line after its first tokens, including blanks.
use Rattle.std.specs.Prelude.{ℕ, Bool, not, List, drop}
use Rattle.std.specs.List.{position_or_len}
use Rattle.text_core.specs.Lines.{is_blank}

-- The rest of a string, from the first byte that satisfies a test.
abbrev pub from_first : (ℕ → Bool) → List ℕ → List ℕ
from_first test bs = drop (position_or_len test bs) bs

-- The string after the first token of a line.
abbrev pub after_first_word : List ℕ → List ℕ
after_first_word line = from_first is_blank (from_first (λ b. not (is_blank b)) line)
