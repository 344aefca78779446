-- If no number of an interval may match, no number of it matches.
use Rattle.std.proofs.Common.{◌≡◌, ℕ, ◌≤◌, Bool, true, false, Option, Some, None, arith}
use Rattle.std.proofs.lemmas.Bool.Decides.{nat_tests}
use Rattle.header_space.specs.declared.header_match.FieldMatch.{FieldMatch}
use Rattle.header_space.specs.Matching.{field_fits, field_may_fit, range_fits, range_may_fit}

range_none : (low high : ℕ) (negated : Bool) (first last n : ℕ) → range_may_fit (record { low = low; high = high; negated = negated }) first last ≡ false
    → first ≤ n → n ≤ last → range_fits (record { low = low; high = high; negated = negated }) n ≡ false
range_none low high true first last n none above below = grind (arith, nat_tests)
range_none low high false first last n none above below = grind (arith, nat_tests)

pub field_none : (asked : Option FieldMatch) (first last n : ℕ) → first ≤ n → n ≤ last → field_may_fit asked first last ≡ false → field_fits asked n ≡ false
field_none None first last n above below none = cc
field_none (Some asked) first last n above below none = range_none asked.low asked.high asked.negated first last n none above below
