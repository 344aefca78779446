-- The numbers in a string that is built from decimal numbers and bytes that are no digits.
use Rattle.std.proofs.Common.{◌≡◌, ℕ, ◌<◌, ◌^◌, Bool, true, false, not, nat_lt, List, [], ◌∷◌, ◌++◌, length, map, filter, All, ap, ◌∙◌, arith}
use Rattle.std.specs.Fmt.{decimal}
use Rattle.std.specs.List.{slice_split}
use Rattle.std.specs.Char.{is_ascii_digit}
use Rattle.std.specs.Str.{all_ascii_digits}
use Rattle.std.specs.Str.Parse.{digits_value}
use Rattle.std.proofs.lemmas.Bool.{and_parts}
use Rattle.std.proofs.lemmas.Bool.Decides.{nat_tests}
use Rattle.std.proofs.lemmas.Fmt.{decimal_is_IsNumeral, decimal_nonempty}
use Rattle.std.proofs.lemmas.List.Elements.{All-nil, All-cons}
use Rattle.std.proofs.lemmas.List.Splits.{slice_split_none, slice_split_at}
use Rattle.text_core.specs.Decimal.{numbers_in}
use Rattle.text_core.proofs.DecimalLaws.{decimal_digits}

-- A function that splits a string at bytes that are no digits, and the numbers of the parts.
abbrev parts_digits : ℕ → Bool
parts_digits b = not (is_ascii_digit b)

abbrev numbers_of : List (List ℕ) → List ℕ
numbers_of parts = map (digits_value 10) (filter (λ run. nat_lt 0 (length run)) parts)

unparted : (bs : List ℕ) → all_ascii_digits bs ≡ true → All (λ b. parts_digits b ≡ false) bs
unparted [] digits = All-nil (λ b. parts_digits b ≡ false)
unparted (b ∷ bs) digits =
    let (here, behind) = and_parts (is_ascii_digit b) (all_ascii_digits bs) digits in
    All-cons (λ b. parts_digits b ≡ false) b bs (ap not here) (unparted bs behind)

-- A decimal number before other parts is their first number.
first_number : (n : ℕ) (parts : List (List ℕ)) → n < 2 ^ 64 → numbers_of (decimal n ∷ parts) ≡ n ∷ numbers_of parts
first_number n parts fits =
    let some : nat_lt 0 (length (decimal n)) ≡ true = grind (arith, nat_tests, decimal_nonempty n fits) in
    rw some (ap (λ m. m ∷ numbers_of parts) (decimal_is_IsNumeral n fits).1)

pub numbers_in-decimal : (n : ℕ) → n < 2 ^ 64 → numbers_in (decimal n) ≡ n ∷ []
numbers_in-decimal n fits =
    ap numbers_of (slice_split_none parts_digits (decimal n) (unparted (decimal n) (decimal_digits n fits))) ∙ first_number n [] fits

pub numbers_in-append : (n mark : ℕ) (rest : List ℕ) → n < 2 ^ 64 → is_ascii_digit mark ≡ false
    → numbers_in (decimal n ++ (mark ∷ rest)) ≡ n ∷ numbers_in rest
numbers_in-append n mark rest fits other =
    ap numbers_of (slice_split_at parts_digits (decimal n) mark rest (unparted (decimal n) (decimal_digits n fits)) (ap not other))
    ∙ first_number n (slice_split parts_digits rest) fits
