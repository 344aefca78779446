-- Parsing packet and byte counters. Callers do not see this; they use `Values: IsCounter`.
use Rattle.std.specs.Prelude.{ℕ, Bool, true, false, ◌&&◌, ◌==◌, List, [], ◌∷◌, Option, Some, None}
use Rattle.text_core.specs.inner.Pieces.{split_once}
use Rattle.ipt_read.specs.Values.{is_counter_number}

abbrev pub is_nothing : List ℕ → Bool
is_nothing [] = true
is_nothing (b ∷ bs) = false

abbrev pub is_bytes_part : Option (List ℕ × List ℕ) → Bool
is_bytes_part None = false
is_bytes_part (Some parts) = is_counter_number parts.0 && is_nothing parts.1

abbrev pub is_packets_part : Option (List ℕ × List ℕ) → Bool
is_packets_part None = false
is_packets_part (Some parts) = is_counter_number parts.0 && is_bytes_part (split_once 93 parts.1)

unfoldable pub is_count : List ℕ → Bool
is_count [] = false
is_count (b ∷ bs) = (b == 91) && is_packets_part (split_once 58 bs)
