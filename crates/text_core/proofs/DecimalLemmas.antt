-- Parsing one more byte, and the end of parsing.
use Rattle.std.proofs.Common.{◌≡◌, ℕ, suc, ◌+◌, ◌*◌, ◌-◌, ◌≤◌, ◌<◌, ◌^◌, true, false, List, [], ◌∷◌, Option, Some, None, refl, sym, ap, ◌∙◌, inl, inr, length, get_or, drop, drop-cons, add-one, arith, nat_eq}
use Rattle.std.proofs.Math.ListN.{drop_of_length-le}
use Rattle.std.specs.Char.{is_ascii_digit}
use Rattle.std.proofs.lemmas.Bool.Decides.{nat_tests}
use Rattle.std.specs.Fmt.{decimal}
use Rattle.std.specs.Str.{all_ascii_digits}
use Rattle.std.proofs.lemmas.Bool.{cases_lt}
use Rattle.std.proofs.lemmas.Fmt.{decimal_digit, decimal_nonempty, first_decimal, digits_decimal, digits_value-decimal, decimal-digits_value}
use Rattle.text_core.specs.inner.Decimal.{number}
use Rattle.text_core.specs.inner.DecimalSteps.{value_from, bounded_value, is_empty_or_padded}
use Rattle.text_core.proofs.DecimalLaws.{own, number-decimal, decimal_of_number}
use Rattle.text_core.proofs.StepsLaws.{same_options}

pub value_from_le : (n : ℕ) (bs : List ℕ) → n ≤ value_from n bs
value_from_le n [] = omega arith
value_from_le n (b ∷ bs) = omega (arith, value_from_le (10 * n + (b - 48)) bs)

pub bounded_value_end : (most n : ℕ) → n ≤ most → bounded_value most n [] ≡ Some n
unfolding bounded_value
bounded_value_end most n h = grind (arith, nat_tests)

pub bounded_value_digit : (most n b : ℕ) (bs : List ℕ) → is_ascii_digit b ≡ true → bounded_value most n (b ∷ bs) ≡ bounded_value most (10 * n + (b - 48)) bs
unfolding bounded_value
bounded_value_digit most n b bs digit = rw digit refl

pub bounded_value_other : (most n b : ℕ) (bs : List ℕ) → is_ascii_digit b ≡ false → bounded_value most n (b ∷ bs) ≡ None
unfolding bounded_value
bounded_value_other most n b bs other = rw other refl

pub bounded_value_large : (most n : ℕ) (bs : List ℕ) → most < n → bounded_value most n bs ≡ None
unfolding bounded_value
bounded_value_large most n bs h = grind (arith, nat_tests, value_from_le n bs)

-- The same at an index of a string.
pub digit_read : (most n i : ℕ) (bs : List ℕ) → i < length bs → is_ascii_digit (get_or bs i 0) ≡ true → bounded_value most (10 * n + (get_or bs i 0 - 48)) (drop (i + 1) bs) ≡ bounded_value most n (drop i bs)
digit_read most n i bs h digit =
    sym (rw (drop-cons bs i 0, ← add-one i) (bounded_value_digit most n (get_or bs i 0) (drop (i + 1) bs) digit))

pub other_read : (most n i : ℕ) (bs : List ℕ) → i < length bs → is_ascii_digit (get_or bs i 0) ≡ false → bounded_value most n (drop i bs) ≡ None
other_read most n i bs h other =
    rw (drop-cons bs i 0) (bounded_value_other most n (get_or bs i 0) (drop (suc i) bs) other)

pub end_read : (most n i : ℕ) (bs : List ℕ) → length bs ≤ i → n ≤ most → bounded_value most n (drop i bs) ≡ Some n
end_read most n i bs h bounded = rw (drop_of_length-le bs h) (bounded_value_end most n bounded)

-- An empty string, one byte, and more.
pub padded_none : (bs : List ℕ) → length bs ≡ 0 → is_empty_or_padded bs ≡ true
padded_none [] h = refl
padded_none (b ∷ bs) h = absurd (omega arith)

pub padded_one : (bs : List ℕ) → length bs ≡ 1 → is_empty_or_padded bs ≡ false
padded_one [] h = absurd (omega arith)
padded_one (b ∷ []) h = refl
padded_one (b ∷ c ∷ bs) h = absurd (omega arith)

pub padded_more : (bs : List ℕ) → 1 < length bs → is_empty_or_padded bs ≡ nat_eq (get_or bs 0 0) 48
padded_more [] h = absurd (omega arith)
padded_more (b ∷ []) h = absurd (omega arith)
padded_more (b ∷ c ∷ bs) h = refl

-- A decimal string has no leading zero.
not_padded : (bs : List ℕ) → 0 < length bs → 48 < get_or bs 0 0 → is_empty_or_padded bs ≡ false
not_padded [] h high = absurd (omega arith)
not_padded (b ∷ []) h high = refl
not_padded (b ∷ c ∷ bs) h high = grind (arith, nat_tests)

decimal_front : (n : ℕ) → n < 2 ^ 64 → is_empty_or_padded (decimal n) ≡ false
decimal_front n fits = elim (cases_lt n 10) [
  | inl short ↦ rw (decimal_digit n short) refl
  | inr long ↦ not_padded (decimal n) (decimal_nonempty n fits) (first_decimal n (omega arith) fits)
]

bounded_gives : (most n : ℕ) (bs : List ℕ) → all_ascii_digits bs ≡ true → value_from 0 bs ≡ n → n ≤ most → bounded_value most 0 bs ≡ Some n
unfolding bounded_value
bounded_gives most n bs digits value h = grind (arith, nat_tests)

-- The number of the digits parsed so far.
record IsRead (most : ℕ) (bs : List ℕ) (n : ℕ) : Type 0 where
  digits : all_ascii_digits bs ≡ true
  value : value_from 0 bs ≡ n
  bounded : n ≤ most

read_parts : (most : ℕ) (bs : List ℕ) (n : ℕ) → bounded_value most 0 bs ≡ Some n → IsRead most bs n
unfolding bounded_value
read_parts most bs n read = grind (arith, nat_tests)

single_zero : (bs : List ℕ) → is_empty_or_padded bs ≡ false → get_or bs 0 0 ≡ 48 → length bs ≡ 1
single_zero [] front zero = cc
single_zero (b ∷ []) front zero = refl
single_zero (b ∷ c ∷ bs) front zero = grind (arith, nat_tests)

nonempty : (bs : List ℕ) → is_empty_or_padded bs ≡ false → 0 < length bs
nonempty [] front = cc
nonempty (b ∷ bs) front = omega arith

digits_written : (most : ℕ) (bs : List ℕ) (n : ℕ) → most < 2 ^ 64 → is_empty_or_padded bs ≡ false → bounded_value most 0 bs ≡ Some n
    → number most bs ≡ Some n
digits_written most bs n small front read =
    let parts = read_parts most bs n read in
    let fits : value_from 0 bs < 2 ^ 64 = omega (arith, parts.value, parts.bounded, small) in
    let written : bs ≡ decimal n = sym (decimal-digits_value own bs parts.digits (nonempty bs front) (single_zero bs front) fits) ∙ ap decimal parts.value in
    ap (number most) written ∙ number-decimal most n parts.bounded (omega (arith, small, parts.bounded))

written_read : (most : ℕ) (bs : List ℕ) (n : ℕ) → most < 2 ^ 64 → number most bs ≡ Some n → bounded_value most 0 bs ≡ Some n
written_read most bs n small said =
    let told = decimal_of_number most bs n small said in
    let fits : n < 2 ^ 64 = omega (arith, told.1, small) in
    ap (bounded_value most 0) told.0 ∙ bounded_gives most n (decimal n) (digits_decimal own n fits) (digits_value-decimal own n fits) told.1

-- The two cases of a number's string.
pub number_plain : (most : ℕ) (bs : List ℕ) → most < 2 ^ 64 → is_empty_or_padded bs ≡ false → bounded_value most 0 bs ≡ number most bs
number_plain most bs small front =
    same_options (bounded_value most 0 bs) (number most bs) (λ n. digits_written most bs n small front) (λ n. written_read most bs n small)

padded_by : (most : ℕ) (bs : List ℕ) (o : Option ℕ) → most < 2 ^ 64 → is_empty_or_padded bs ≡ true → number most bs ≡ o → None ≡ o
padded_by most bs None small padded said = refl
padded_by most bs (Some n) small padded said =
    let told = decimal_of_number most bs n small said in
    let front : is_empty_or_padded bs ≡ false = ap is_empty_or_padded told.0 ∙ decimal_front n (omega (arith, told.1, small)) in
    cc

pub number_padded : (most : ℕ) (bs : List ℕ) → most < 2 ^ 64 → is_empty_or_padded bs ≡ true → None ≡ number most bs
number_padded most bs small padded = padded_by most bs (number most bs) small padded refl
