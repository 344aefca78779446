-- Fallible steps of a parser: if one step returns `None`, so does the sequence.
use Rattle.std.specs.Prelude.{Option, option_and_then}

infixl 10 ◌>>=◌
-- The monadic bind: the second step applied to the result of the first.
abbrev pub ◌>>=◌ : {A B : Type 0} → Option A → (A → Option B) → Option B
o >>= f = option_and_then f o
