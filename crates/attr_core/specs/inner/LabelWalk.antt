-- The code's iteration over the labels of an assign of `tainting`: each new label has the next number. Nothing here is trusted:
-- LabelWalkLaws relates it to the attribute of the assign.
use Rattle.std.specs.Prelude.{ℕ, Bool, ◌^◌, ◌==◌, nat_lt, bit_and, bit_or, List, [], ◌∷◌, ◌++◌, length, Option, Some, None, codes, if◌then◌else◌}
use Rattle.std.specs.List.{position_from}
use Rattle.std.specs.Str.{bytes_eq}
use Rattle.toml.specs.Data.{Data, Members}
use Rattle.table_core.specs.inner.Listing.{grow}
use Rattle.text_core.specs.Steps.{◌>>=◌}
use Rattle.table_core.specs.Tables.{list_or_empty}
use Rattle.tmpl_levels.specs.declared.tainting.Labels.{Labels}
use Rattle.attr_core.specs.Assigns.{Given}
use Rattle.attr_core.specs.Tainting.{label_in, labels_of, said_of}

-- The labels so far, each with its index as its number, and one of these numbers.
pub record Known : Type 0 where
  pub labels : List (List ℕ)
  pub number : ℕ

-- A new label has the next number, if that is below 64.
unfoldable pub new_label : List (List ℕ) → List ℕ → Option Known
new_label labels label = if nat_lt (length labels) 64 then Some (record { labels = labels ++ label ∷ []; number = length labels }) else None

abbrev pub known_or_new : List (List ℕ) → List ℕ → Option ℕ → Option Known
known_or_new labels label None = new_label labels label
known_or_new labels label (Some number) = Some (record { labels = labels; number = number })

-- The number of a label.
unfoldable pub numbered : List (List ℕ) → List ℕ → Option Known
numbered labels label = known_or_new labels label (position_from (bytes_eq label) 0 labels)

-- The labels so far, and a set of them, with one bit for each.
pub record LabelSet : Type 0 where
  pub labels : List (List ℕ)
  pub bits : ℕ

-- The set with one more label.
unfoldable pub and_label : LabelSet → Data → Option LabelSet
and_label s d = do
  label ← label_in d
  known ← numbered s.labels label
  Some (record { labels = known.labels; bits = bit_or s.bits (2 ^ known.number) })

-- The set of the listed labels.
unfoldable pub all_labels : List (List ℕ) → List Data → Option LabelSet
all_labels labels ds = grow and_label (record { labels = labels; bits = 0 }) ds

-- The labels of the table of an assign, after the existing labels.
unfoldable pub labels_at : List ℕ → List (List ℕ) → Members → Option LabelSet
labels_at key labels table = list_or_empty key table >>= all_labels labels

-- The host removes only labels that it has.
abbrev pub are_among : ℕ → ℕ → Bool
are_among untaints taints = bit_and untaints taints == untaints

-- The labels so far, and those of one host.
pub record Labelled : Type 0 where
  pub labels : List (List ℕ)
  pub attribute : Labels

-- The attribute of a table, after the existing labels.
unfoldable pub labelled : List (List ℕ) → Members → Option Labelled
labelled labels table = do
  taints ← labels_at (codes "taints") labels table
  untaints ← labels_at (codes "untaints") taints.labels table
  if are_among untaints.bits taints.bits
      then Some (record { labels = untaints.labels; attribute = record { taints = taints.bits; untaints = untaints.bits } })
      else None

-- The labels of an assign's host, after the earlier assigns.
abbrev pub tainting_reads : List Given → Given → Option Labels
tainting_reads earlier a = said_of (labels_of (earlier ++ a ∷ [])) a.table
