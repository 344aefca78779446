-- A growing list of entries: all entries are counted, and stored while their number is within the limit of a table. The contracts of
-- layouts mention none of it; they specify the table.
use Rattle.std.specs.Prelude.{◌≡◌, ◌≤◌, ℕ, ◌+◌, nat_lt, if◌then◌else◌, List, [], ◌∷◌, ◌++◌, length}
use Rattle.ofp_rules.specs.declared.entry.Entry.{Entry}
use Rattle.ofp_rules.specs.Ambiguity.{most_entries}

pub record KeptEntries : Type 0 where
  pub kept : List Entry
  pub count : ℕ

abbrev pub no_entries : KeptEntries
no_entries = record { kept = []; count = 0 }

abbrev pub with_entry : KeptEntries → Entry → KeptEntries
with_entry es e = record { kept = if nat_lt es.count most_entries then es.kept ++ e ∷ [] else es.kept; count = es.count + 1 }

-- More entries are added in sequence.
abbrev pub with_entries : KeptEntries → List Entry → KeptEntries
with_entries es [] = es
with_entries es (x ∷ xs) = with_entries (with_entry es x) xs

-- These entries were added: all are counted, and all are stored if their number is within the limit.
pub record AreCounted (all : List Entry) (es : KeptEntries) : Type 0 where
  pub counted : es.count ≡ length all
  pub kept : es.count ≤ most_entries → es.kept ≡ all
