-- The decimal numbers in a string.
use Rattle.std.specs.Prelude.{ℕ, not, nat_lt, List, length, map, filter}
use Rattle.std.specs.Char.{is_ascii_digit}
use Rattle.std.specs.List.{slice_split}
use Rattle.std.specs.Str.Parse.{digits_value}

-- The numbers in a string: one for each run of digits.
abbrev pub numbers_in : List ℕ → List ℕ
numbers_in text = map (digits_value 10) (filter (λ run. nat_lt 0 (length run)) (slice_split (λ b. not (is_ascii_digit b)) text))
