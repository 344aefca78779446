-- The tables of the sample as the code builds them.
use Rattle.std.specs.Prelude.{ℕ, ◌%◌, ◌==◌, Bool}
use Rattle.toml.specs.Data.{Data, table, Members}

-- A table as a value.
abbrev pub table_value : (ℕ → Members) → ℕ → Data
table_value made k = table (made k)

abbrev pub is_in_care : ℕ → Bool
is_in_care k = k % 8 == 0
