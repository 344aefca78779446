-- The condition that the default of a table is secure, and the first pair that another default would let pass.
use Rattle.std.specs.Prelude.{◌≤◌, ◌<◌, ℕ, not, List, length, find, Option, IsTrue}
use Rattle.std.specs.List.{All}
use Rattle.inv_law.specs.Attributes.{PassesBetween}
use Rattle.inv_law.specs.inner.Resets.{PassesAfterReset, ResetPassesNoMore}
use Rattle.tmpl_table.specs.KindTable.{KindTable, lists, passes_with}

-- A flow passes from one kind to another if their pair is not denied.
abbrev pub PairPasses : List (ℕ × ℕ) → ℕ → ℕ → Type 0
PairPasses denied sender receiver = IsTrue (not (lists denied (sender, receiver)))

-- The default is secure: for all kinds of the hosts, a flow that does not pass still does not pass after its offending host is given the
-- default.
abbrev pub HasSecureDefault : KindTable → Type 0
HasSecureDefault table =
    (hosts : List ℕ) → 2 ≤ length hosts → All (λ kind. kind < table.kinds) hosts
    → ResetPassesNoMore (length hosts) table.strategy (PassesBetween table.default (PairPasses table.denied) hosts) (PassesAfterReset table.default (PairPasses table.denied) hosts)

-- The first denied pair that passes after its offending host is given this kind.
abbrev pub first_weaker : KindTable → ℕ → Option (ℕ × ℕ)
first_weaker table kind = find (passes_with table.strategy table.denied kind) table.denied
