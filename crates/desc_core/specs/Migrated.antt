-- A description in version 2: the result of `migrate` for an accepted description (docs/TEXTS.md).
use Rattle.std.specs.Prelude.{◌≡◌, ◌≤◌, ℕ, pos, false, List, length, codes, Some, Ok}
use Rattle.std.specs.Cmp.Lexicographic.{slice_cmp}
use Rattle.std.specs.Ordering.{match_ordering, nat_cmp}
use Rattle.toml.specs.Data.{Data, integer, table, Members, no_members, member}
use Rattle.toml.specs.Text.{IsDocumentText}
use Rattle.desc_core.specs.Conditions.{byte_limit}
use Rattle.desc_core.specs.Description.{described}
use Rattle.desc_core.specs.Document.{document}
use Rattle.net_core.specs.Network.{Network}
use Rattle.table_core.specs.Shallow.{IsShallow}

-- The table with this value at the key, and unchanged elsewhere. Its keys stay in order.
abbrev pub with_member : List ℕ → Data → Members → Members
with_member k d no_members = member k d no_members
with_member k d (member l e ms) = match_ordering (slice_cmp nat_cmp k l) (member k d (member l e ms)) (member l d ms) (member l e (with_member k d ms))

-- The table of a description, in version 2.
abbrev pub migrated : Members → Members
migrated document = with_member (codes "topos") (integer (pos 2)) document

-- The bytes describe a network. They are the document of a table that nests at most six arrays and tables, without dates, times and floats.
-- The text is a document of that table in version 2, as `toml` prints one. It describes the same network, if it is within the size limit of
-- descriptions.
pub record IsMigrated (bytes text : List ℕ) : Type 0 where
  pub network : Network
  pub accepted : described bytes ≡ Ok network
  pub members : Members
  pub read : document bytes ≡ Some members
  pub shallow : IsShallow 6 (table members)
  pub written : document text ≡ Some (migrated members)
  pub printed : IsDocumentText false (migrated members) text
  pub same : length text ≤ byte_limit → described text ≡ Ok network
