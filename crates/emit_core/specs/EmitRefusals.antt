-- The greatest number of rules of a layout.
use Rattle.std.specs.Prelude.{ℕ}

abbrev pub rule_limit : ℕ
rule_limit = 600000
