-- Ranges of services without their example packets, to compare answers that show different examples.
use Rattle.std.specs.Prelude.{ℕ, Bool}
use Rattle.pass_core.specs.Passing.{is_wholly}
use Rattle.pass_core.specs.declared.passing_range.PassingRange.{PassingRange}

-- The range without its examples: its first and its last service, and whether they pass wholly.
abbrev pub range_without_examples : PassingRange → ℕ × ℕ × Bool
range_without_examples r = (r.low, r.high, is_wholly r)
