-- Test vectors: lines of edit files that are rejected, and the remainder after tokens.
use Rattle.std.proofs.Common.{◌≡◌, ℕ, List, [], ◌∷◌, refl}
use Rattle.std.specs.List.{AllByRecursion}
use Rattle.std.specs.Prelude.{codes, Err}
use Rattle.std.specs.Fmt.{digits}
use Rattle.text_core.specs.inner.Decimal.{number}
use Rattle.text_core.specs.declared.faults.ListWhy.{ListWhy}
use Rattle.text_core.specs.declared.faults.ListWhy.TheVariants.{BadLine, BadValue}
use Rattle.edit_core.specs.Behind.{after_first_word}
use Rattle.edit_core.specs.inner.ChangeSteps.{change_of}

abbrev IsRefusedFor : ListWhy → List ℕ → Type 0
IsRefusedFor why line = change_of line ≡ Err why

-- The number of tokens takes precedence over every value.
rows_of_words : AllByRecursion (IsRefusedFor BadLine) (codes "add a" ∷ codes "remove a b c" ∷ codes " set 99 " ∷ codes "unset 1 a b" ∷ codes "Add a b" ∷ [])
unfolding change_of
rows_of_words = (refl, (refl, (refl, (refl, (refl, tt)))))

-- Invariants are numbered from 1 to 16, and leading zeros are rejected. A token ends only at a blank.
rows_of_numbers : AllByRecursion (IsRefusedFor BadValue)
    (codes "unset 0 a" ∷ codes "unset 17 a" ∷ codes "set 01 { host = \"a\" }" ∷ codes "set 1{ host = \"a\" } b" ∷ [])
unfolding change_of number digits
rows_of_numbers = (refl, (refl, (refl, (refl, tt))))

row_behind : after_first_word (after_first_word (codes " set  1 { } # c ")) ≡ codes " { } # c "
row_behind = refl
