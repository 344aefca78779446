-- Representatives of classes. A class of addresses or ports goes from a cut to the number before the next cut. A class of protocols
-- is one protocol that is named, or it is all protocols that are not named. The least number of a class represents the class.
use Rattle.std.specs.Prelude.{ℕ, ◌==◌, ◌||◌, Bool, List}
use Rattle.std.specs.List.{list_all, list_any, range_with_len}

-- The list contains the number.
abbrev pub is_among : List ℕ → ℕ → Bool
is_among numbers n = list_any (λ x. x == n) numbers

-- A protocol represents its class if and only if it is named, or all protocols below it are named: then it is the least that is not named.
abbrev pub represents_protocol : (named : List ℕ) → ℕ → Bool
represents_protocol named n = is_among named n || list_all (is_among named) (range_with_len 0 n)
