-- Decimal numbers: only digits, no sign, no leading zero.
use Rattle.std.specs.Prelude.{ℕ, ◌&&◌, nat_le, List, Option, decimal, bytes_eq}
use Rattle.std.specs.Str.Parse.{digits_value}
use Rattle.text_core.specs.FirstMatch.{some_if}

-- The number, at most `most`, whose decimal notation the string is.
unfoldable pub number : ℕ → List ℕ → Option ℕ
number most text = let n = digits_value 10 text in some_if (bytes_eq text (decimal n) && nat_le n most) n
