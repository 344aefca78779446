-- The entries that form a table, and the refusals of other entries.
use Rattle.std.specs.Prelude.{◌≡◌, ◌<◌, ◌≤◌, ℕ, ◌+◌, IsTrue, List, length, Some, slice_get}
use Rattle.std.specs.List.{list_all}
use Rattle.host_net.specs.declared.packet.Verdict.{Verdict}
use Rattle.ofp_rules.specs.declared.entry.Entry.{Entry}
use Rattle.ofp_rules.specs.declared.entry.Frame.{Frame}
use Rattle.ofp_rules.specs.declared.table.TableRefusal.{TableRefusal}
use Rattle.ofp_rules.specs.declared.table.TableRefusal.TheVariants.{TooMany, Ambiguous, Memory}
use Rattle.ofp_rules.specs.Ambiguity.{IsFrame, Contradict, most_entries}
use Rattle.ofp_rules.specs.Matching.{asks_of_ip}
use Rattle.ofp_rules.specs.Semantics.{HasVerdict}
use Rattle.ofp_rules.specs.inner.Ranges.{AreInRange}

-- The entry at index i and the later entry at index j contradict each other.
pub record AreAmbiguous (entries : List Entry) (i j : ℕ) : Type 0 where
  pub first : Entry
  pub second : Entry
  pub at_first : slice_get entries i ≡ Some first
  pub at_second : slice_get entries j ≡ Some second
  pub earlier : i < j
  pub contradict : Contradict first second

-- The pair i, j is the first ambiguous pair: no pair has a smaller second index, and no pair with second index j has a smaller first index.
pub record IsFirstAmbiguity (entries : List Entry) (i j : ℕ) : Type 0 where
  pub ambiguous : AreAmbiguous entries i j
  pub least_second : (k l : ℕ) → AreAmbiguous entries k l → j ≤ l
  pub least_first : (k : ℕ) → AreAmbiguous entries k j → i ≤ k

abbrev pub IsUnambiguous : List Entry → Type 0
IsUnambiguous entries = (i j : ℕ) → AreAmbiguous entries i j → ⊥

-- The reason why entries form no table: there are too many, otherwise two of them are ambiguous. An allocation failure is always possible.
abbrev pub IsRefused : List Entry → TableRefusal → Type 0
IsRefused entries (TooMany count) = (most_entries < length entries) × (count ≡ length entries)
IsRefused entries (Ambiguous first second) = (length entries ≤ most_entries) × IsFirstAmbiguity entries first second
IsRefused entries Memory = Unit {0}

-- The entry at index i contradicts entry e, and no earlier entry does.
pub record IsFirstAgainst (entries : List Entry) (e : Entry) (i : ℕ) : Type 0 where
  pub first : Entry
  pub at_first : slice_get entries i ≡ Some first
  pub contradict : Contradict first e
  pub least : (k : ℕ) (f : Entry) → slice_get entries k ≡ Some f → Contradict f e → i ≤ k

-- The reason why a table does not accept one more entry: the table is full, otherwise one of its entries contradicts the new entry.
-- An allocation failure is always possible.
abbrev pub IsNotAdded : List Entry → Entry → TableRefusal → Type 0
IsNotAdded entries e (TooMany count) = (most_entries ≤ length entries) × (count ≡ length entries + 1)
IsNotAdded entries e (Ambiguous first second) = (length entries < most_entries) × IsFirstAgainst entries e first × (second ≡ length entries)
IsNotAdded entries e Memory = Unit {0}

-- The entries form a table: they are within the limit, and no two of them are ambiguous.
abbrev pub IsAccepted : List Entry → Type 0
IsAccepted entries = (length entries ≤ most_entries) × IsUnambiguous entries

-- The frame has exactly one verdict.
pub record HasOneVerdict (entries : List Entry) (frame : Frame) : Type 0 where
  pub verdict : Verdict
  pub has : HasVerdict entries frame verdict
  pub only : (v : Verdict) → HasVerdict entries frame v → v ≡ verdict

-- The invariant of a table: it is accepted, its numbers are in the range of their fields, its entries meet the prerequisites of their
-- fields, and each frame has exactly one verdict.
pub record IsTable (entries : List Entry) : Type 0 where
  pub accepted : IsAccepted entries
  pub in_range : AreInRange entries
  pub asks : IsTrue (list_all asks_of_ip entries)
  pub one_verdict : (frame : Frame) → IsFrame frame → HasOneVerdict entries frame
