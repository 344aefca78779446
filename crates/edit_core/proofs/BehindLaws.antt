-- A string from the first index on that satisfies a test.
use Rattle.std.proofs.Common.{◌≡◌, ℕ, ◌≤◌, Bool, List, [], Some, None, length, drop, position, nat_lt, sym, ap, arith}
use Rattle.std.proofs.lemmas.Bool.Decides.{nat_tests}
use Rattle.std.proofs.lemmas.List.{drop_all}
use Rattle.std.specs.List.{position_or_len}
use Rattle.text_core.proofs.StepsLaws.{split_bool}
use Rattle.edit_core.specs.Behind.{from_first}

pub from_place : (test : ℕ → Bool) (bs : List ℕ) (place : ℕ) → Some place ≡ position test bs → (place ≤ length bs) × (from_first test bs ≡ drop place bs)
from_place test bs place is = split_bool (nat_lt (position_or_len test bs) (length bs))
    (λ within. let here : position test bs ≡ Some (position_or_len test bs) = rw within in
    let same : place ≡ position_or_len test bs = cc (here, is) in
    let inside : place ≤ length bs = grind (arith, nat_tests) in
    (inside, ap (λ n. drop n bs) (sym same)))
    (λ past. let none : position test bs ≡ None = rw past in cc (none, is))

pub from_nowhere : (test : ℕ → Bool) (bs : List ℕ) → None ≡ position test bs → from_first test bs ≡ []
from_nowhere test bs is = split_bool (nat_lt (position_or_len test bs) (length bs))
    (λ within. let here : position test bs ≡ Some (position_or_len test bs) = rw within in cc (here, is))
    (λ past. let end : length bs ≤ position_or_len test bs = grind (arith, nat_tests) in drop_all (position_or_len test bs) bs end)
