-- Parsing a decimal number digit by digit.
use Rattle.std.specs.Prelude.{ℕ, ◌+◌, ◌*◌, ◌-◌, Bool, true, false, ◌&&◌, ◌==◌, nat_le, if◌then◌else◌, List, [], ◌∷◌, Option, Some, None}
use Rattle.std.specs.Str.{all_ascii_digits}

-- The number of some digits, continued from the number n of the digits before them.
abbrev pub value_from : ℕ → List ℕ → ℕ
value_from n [] = n
value_from n (b ∷ bs) = value_from (10 * n + (b - 48)) bs

-- This number, if there are only digits and it is at most `most`.
unfoldable pub bounded_value : ℕ → ℕ → List ℕ → Option ℕ
bounded_value most n bs = if all_ascii_digits bs && nat_le (value_from n bs) most then Some (value_from n bs) else None

-- The string is empty, or has a leading zero.
abbrev pub is_empty_or_padded : List ℕ → Bool
is_empty_or_padded [] = true
is_empty_or_padded (b ∷ []) = false
is_empty_or_padded (b ∷ c ∷ bs) = b == 48
