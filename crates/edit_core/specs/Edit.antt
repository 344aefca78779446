-- An edit of a description: a change, and the number of its line in the file.
use Rattle.std.specs.Prelude.{ℕ, List}
use Rattle.toml.specs.Data.{Members}

-- A change. `Add` lists a flow: the names of its two hosts, followed by its services. `Remove` removes the flow between two hosts. `Set`
-- makes an invariant, given by its number from 1, assign to a host the attribute that a table specifies, and `Unset` removes its assign to
-- a host.
pub data Change : Type 0 where
  Add : (words : List (List ℕ)) → Change
  Remove : (from to : List ℕ) → Change
  Set : (invariant : ℕ) → (assign : Members) → Change
  Unset : (invariant : ℕ) → (host : List ℕ) → Change

-- An edit: the number of its line, and its change.
pub record Edit : Type 0 where
  pub line : ℕ
  pub change : Change
