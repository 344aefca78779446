-- The nesting depth of a value, and the types in it: a value that `toml` can print, for all strings and numbers.
use Rattle.std.specs.Prelude.{ℕ, ◌≤◌, Bool, true, false, ◌&&◌, IsTrue}
use Rattle.toml.specs.Data.{Data, float, datetime, array, table, Items, no_items, item, Members, no_members, member, depth}

-- The value contains no date, no time and no float.
abbrev mutual
  pub is_plain : Data → Bool
  is_plain (float x) = false
  is_plain (datetime dt) = false
  is_plain (array ds) = items_are_plain ds
  is_plain (table ms) = members_are_plain ms
  is_plain _ = true

  pub items_are_plain : Items → Bool
  items_are_plain no_items = true
  items_are_plain (item d ds) = is_plain d && items_are_plain ds

  pub members_are_plain : Members → Bool
  members_are_plain no_members = true
  members_are_plain (member k d ms) = is_plain d && members_are_plain ms

-- The value nests at most `levels` arrays and tables, and is plain.
abbrev pub IsShallow : ℕ → Data → Type 0
IsShallow levels d = (depth d ≤ levels) × IsTrue (is_plain d)
