-- Lemmas on decimal numbers: a string is parsed to a number if and only if it is the decimal notation of the number.
use Rattle.std.proofs.Common.{◌≡◌, ℕ, ◌≤◌, ◌<◌, ◌^◌, true, false, ◌&&◌, nat_eq, nat_le, Option, IfSome, List, [], ◌∷◌, Some, None, refl, sym, ◌∙◌, ap, arith, rules}
use Rattle.std.specs.Prelude.{bytes_eq}
use Rattle.std.specs.Fmt.{decimal}
use Rattle.std.specs.Char.{is_ascii_digit}
use Rattle.std.specs.Str.{all_ascii_digits}
use Rattle.std.specs.Str.Parse.{digits_value}
use Rattle.std.proofs.lemmas.Bool.{and_parts}
use Rattle.std.proofs.lemmas.Bool.Decides.{nat_tests}
use Rattle.std.proofs.lemmas.Fmt.{decimal_is_IsNumeral, digits_decimal}
use Rattle.std.proofs.lemmas.Str.Parse.{IsNumeralModel, numerals_by_fold}
use Rattle.text_core.specs.inner.Decimal.{number}
use Rattle.text_core.specs.FirstMatch.{some_if}
use Rattle.text_core.specs.inner.DecimalSteps.{value_from}
use Rattle.text_core.proofs.FirstsLaws.{where_parts}
use Rattle.text_core.proofs.PiecesLaws.{lacks}
use Rattle.text_core.proofs.StepsLaws.{bytes_same, bytes_own}

-- Digits, in terms of the parser.
pub own : IsNumeralModel (λ ds. all_ascii_digits ds ≡ true) (value_from 0)
own = numerals_by_fold _ (search rules) value_from (search rules)

-- A number, if a string is its decimal notation.
abbrev told : ℕ → List ℕ → ℕ → Option ℕ
told most text n = some_if (bytes_eq text (decimal n) && nat_le n most) n

told_own : (most n : ℕ) → n ≤ most → told most (decimal n) n ≡ Some n
told_own most n h =
    let small : nat_le n most ≡ true = grind (arith, nat_tests) in
    rw (bytes_own (decimal n), small) refl

-- A formatted number is parsed.
pub number-decimal : (most n : ℕ) → n ≤ most → n < 2 ^ 64 → number most (decimal n) ≡ Some n
unfolding number
number-decimal most n h fits = ap (told most (decimal n)) (decimal_is_IsNumeral n fits).1 ∙ told_own most n h

within : (n most : ℕ) → nat_le n most ≡ true → n ≤ most
within n most h = grind (arith, nat_tests)

-- A parsed number is formatted as the string.
pub decimal_of_number : (most : ℕ) (bs : List ℕ) (n : ℕ) → most < 2 ^ 64 → number most bs ≡ Some n → (bs ≡ decimal n) × (n ≤ most)
unfolding number
decimal_of_number most bs n small read =
    let m : ℕ = digits_value 10 bs in
    let parts = where_parts (bytes_eq bs (decimal m) && nat_le m most) m n read in
    let (same, bounded) = and_parts (bytes_eq bs (decimal m)) (nat_le m most) parts.0 in
    (bytes_same bs (decimal m) same ∙ ap decimal parts.1, within n most (ap (λ k. nat_le k most) (sym parts.1) ∙ bounded))

-- A decimal string consists of digits.
pub decimal_digits : (n : ℕ) → n < 2 ^ 64 → all_ascii_digits (decimal n) ≡ true
decimal_digits n fits = digits_decimal own n fits

digits_parts : (b : ℕ) (bs : List ℕ) → all_ascii_digits (b ∷ bs) ≡ true → (is_ascii_digit b ≡ true) × (all_ascii_digits bs ≡ true)
digits_parts b bs digits = grind (arith, nat_tests)

digit_apart : (mark b : ℕ) → is_ascii_digit mark ≡ false → is_ascii_digit b ≡ true → nat_eq b mark ≡ false
digit_apart mark b other digit = grind (arith, nat_tests)

-- A string of digits does not contain a separator that is no digit.
pub digits_lack : (mark : ℕ) (bs : List ℕ) → is_ascii_digit mark ≡ false → all_ascii_digits bs ≡ true → lacks mark bs ≡ true
digits_lack mark [] other digits = refl
digits_lack mark (b ∷ bs) other digits =
    let parts = digits_parts b bs digits in
    let apart : nat_eq b mark ≡ false = digit_apart mark b other parts.0 in
    rw (apart, digits_lack mark bs other parts.1) refl

pub decimal_lacks : (mark n : ℕ) → is_ascii_digit mark ≡ false → n < 2 ^ 64 → lacks mark (decimal n) ≡ true
decimal_lacks mark n other fits = digits_lack mark (decimal n) other (decimal_digits n fits)

-- The two directions for a result that is the number of a string.
pub number_said : (most : ℕ) (bs : List ℕ) (r : Option ℕ) → most < 2 ^ 64 → r ≡ number most bs → IfSome r (λ n. bs ≡ decimal n)
number_said most bs None small e = tt
number_said most bs (Some n) small e = (decimal_of_number most bs n small (sym e)).0

pub number_read : (most : ℕ) (bs : List ℕ) (r : Option ℕ) (n : ℕ) → most < 2 ^ 64 → r ≡ number most bs → n ≤ most → bs ≡ decimal n → r ≡ Some n
number_read most bs r n small e h written = e ∙ ap (number most) written ∙ number-decimal most n h (omega arith)
