-- Relates the calls of `migrate` to its contract.
use Rattle.std.proofs.Common.{◌≡◌, ◌≤◌, ℕ, true, List, [], ◌∷◌, length, Ordering, Less, Equal, Greater, String, Global, string_bytes, Ok, Err, refl, ◌∙◌}
use Rattle.std.proofs.lemmas.Str.{is_utf8-from_IsUtf8, IsUtf8-string_bytes}
use Rattle.std.specs.BTreeMap.{insert_entry}
use Rattle.std.specs.Ordering.{match_ordering}
use Rattle.std.specs.Option.{ok_or}
use Rattle.std.specs.Prelude.{Option, Some, None, Bool, false, nat_lt, if◌then◌else◌}
use Rattle.std.specs.Str.{is_utf8}
use Rattle.std.specs.String.{string_cmp}
use Rattle.toml.specs.Data.{Members, table, members_depth, members_have_valid_dates}
use Rattle.toml.specs.Parse.{parse_document}
use Rattle.toml.specs.Text.{IsDocumentText}
use Rattle.toml.specs.View.{view, members_view}
use Rattle.toml.specs.declared.value.Value.{Value}
use Rattle.desc_core.specs.Conditions.{byte_limit}
use Rattle.desc_core.specs.Description.{described, described_by_table}
use Rattle.desc_core.specs.Document.{document}
use Rattle.desc_core.specs.Migrated.{IsMigrated, migrated, with_member}
use Rattle.desc_core.specs.inner.Migrated.{Migrates}
use Rattle.desc_core.proofs.MigratedLaws.{migrated_prints, text_describes}
use Rattle.desc_core.specs.inner.Parts.{table_of}
use Rattle.desc_core.specs.inner.Reads.{Reads}
use Rattle.desc_core.specs.declared.fault.DescFault.{DescFault}
use Rattle.desc_core.specs.declared.fault.DescFault.TheVariants.{Memory, Refused}
use Rattle.desc_core.proofs.DescribeLemmas.{table_read}
use Rattle.desc_core.proofs.ShallowLaws.{accepted_shallow}
use Rattle.desc_form.specs.Refusals.{refused}
use Rattle.desc_form.specs.declared.refusal.Place.TheVariants.{Document}
use Rattle.desc_form.specs.declared.refusal.Why.TheVariants.{NotToml, TooLong}
use Rattle.net_core.specs.Network.{Network}
use Rattle.table_core.specs.Shallow.{IsShallow}
use Rattle.table_core.proofs.SortedLaws.{parse_document-sorted}

-- An insert into the map of a table.
match_members : (o : Ordering) (a b c : List (String Global × Value))
    → members_view (match_ordering o a b c) ≡ match_ordering o (members_view a) (members_view b) (members_view c)
match_members Less a b c = refl
match_members Equal a b c = refl
match_members Greater a b c = refl

pub inserted : (es : List (String Global × Value)) (k : String Global) (v : Value)
    → members_view (insert_entry string_cmp es k v) ≡ with_member (string_bytes k) (view v) (members_view es)
inserted [] k v = refl
inserted (e ∷ es) k v = match_members (string_cmp k e.0) _ _ _ ∙ rw (inserted es k v) refl

-- A printed text is a document.
pub printed_document : (text : String Global) (ms : Members) → parse_document (string_bytes text) ≡ Some ms → document (string_bytes text) ≡ Some ms
unfolding document
printed_document text ms read = rw (is_utf8-from_IsUtf8 (string_bytes text) (IsUtf8-string_bytes text)) read

-- The table that was parsed.
read_by : (long : Bool) (read : Option Members) (ms : Members)
    → (if long then Err (refused TooLong Document) else ok_or read (refused NotToml Document)) ≡ Ok ms → read ≡ Some ms
read_by true read ms is = cc
read_by false None ms is = cc
read_by false (Some read) ms is = cc

pub read_document : (bytes : List ℕ) (ms : Members) → table_of bytes ≡ Ok ms → document bytes ≡ Some ms
unfolding table_of
read_document bytes ms is = read_by (nat_lt byte_limit (length bytes)) (document bytes) ms is

parsed_by : (utf8 : Bool) (read : Option Members) (ms : Members) → (if utf8 then read else None) ≡ Some ms → read ≡ Some ms
parsed_by true read ms is = is
parsed_by false read ms is = cc

pub read_shallow : (bytes : List ℕ) (ms : Members) (d : Network) → table_of bytes ≡ Ok ms → described_by_table ms ≡ Ok d → IsShallow 6 (table ms)
unfolding document
read_shallow bytes ms d read said =
    accepted_shallow ms d (parse_document-sorted bytes ms (parsed_by (is_utf8 bytes) (parse_document bytes) ms (read_document bytes ms read))) said

pub is_migrated : (bytes text : List ℕ) (ms : Members) (d : Network) → table_of bytes ≡ Ok ms → described_by_table ms ≡ Ok d
    → document text ≡ Some (migrated ms) → IsDocumentText false (migrated ms) text → IsMigrated bytes text
is_migrated bytes text ms d read said written printed = record {
  network = d;
  accepted = table_read bytes ms read ∙ said;
  members = ms;
  read = read_document bytes ms read;
  shallow = read_shallow bytes ms d read said;
  written = written;
  printed = printed;
  same = λ short. text_describes text ms d written said short;
}

-- It is a table that `toml` prints.
pub prints : (bytes : List ℕ) (ms next : Members) (d : Network) → table_of bytes ≡ Ok ms → described_by_table ms ≡ Ok d → next ≡ migrated ms
    → (members_depth next ≤ 5) × (members_have_valid_dates next ≡ true)
prints bytes ms next d read said same = rw same (migrated_prints ms (read_shallow bytes ms d read said))

-- A refusal is that of `describe`.
pub refused_so : (bytes : List ℕ) (fault : DescFault) → Reads {A = Network} (Err fault) (described bytes) → Migrates bytes (Err fault)
refused_so bytes (Refused refusal) told = told
refused_so bytes Memory told = tt

pub refused_table : (bytes : List ℕ) (ms : Members) (fault : DescFault) → table_of bytes ≡ Ok ms
    → Reads {A = Network} (Err fault) (described_by_table ms) → Migrates bytes (Err fault)
refused_table bytes ms (Refused refusal) read told = table_read bytes ms read ∙ told
refused_table bytes ms Memory read told = tt
