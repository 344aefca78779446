-- Tainting: `taints` and `untaints` list labels, none if they are absent; a host removes only labels that it has. The labels of one
-- invariant are numbered in the order of their first appearance, through its assigns in order and in each of them `taints` before
-- `untaints`. There are at most 64. The keys of an assign of this template: docs/FORMATS.md.
use Rattle.std.specs.Prelude.{ℕ, Bool, ◌^◌, ◌&&◌, nat_lt, bit_or, List, [], ◌∷◌, ◌++◌, length, flat_map, Option, Some, None, codes, unwrap_or, if◌then◌else◌}
use Rattle.std.specs.List.{fold, list_all, list_any, position_from}
use Rattle.std.specs.Str.{bytes_eq}
use Rattle.toml.specs.Data.{Data, Members, as_str}
use Rattle.text_core.specs.Name.{is_name}
use Rattle.table_core.specs.Listing.{each}
use Rattle.text_core.specs.Steps.{◌>>=◌}
use Rattle.table_core.specs.Tables.{list_or_empty}
use Rattle.tmpl_levels.specs.declared.tainting.Labels.{Labels}
use Rattle.tmpl_levels.specs.Tainting.{tainting}
use Rattle.inv_any.specs.declared.any_inv.AnyInv.TheVariants as any
use Rattle.attr_core.specs.Assigns.{Given}
use Rattle.attr_core.specs.Forms.{Form}
use Rattle.table_core.specs.Keys.{Texts, optional}

-- A label has the form of a name.
unfoldable pub label_in : Data → Option (List ℕ)
label_in d = do
  text ← as_str d
  if is_name text then Some text else None

-- The labels that are listed at a key, if each element is a label.
abbrev pub labels_in : List ℕ → Members → Option (List (List ℕ))
labels_in key table = list_or_empty key table >>= each label_in

-- The labels that a table lists, in order.
abbrev pub told : Members → List (List ℕ)
told table = unwrap_or (labels_in (codes "taints") table) [] ++ unwrap_or (labels_in (codes "untaints") table) []

-- The label is in the list.
abbrev pub is_listed : List (List ℕ) → List ℕ → Bool
is_listed labels label = list_any (bytes_eq label) labels

-- The labels with one more, unless it is present.
abbrev pub with_label : List (List ℕ) → List ℕ → List (List ℕ)
with_label labels label = if is_listed labels label then labels else labels ++ label ∷ []

-- These labels, followed by the new ones among `more`.
abbrev pub different : List (List ℕ) → List (List ℕ) → List (List ℕ)
different labels more = fold with_label labels more

-- The distinct labels of these assigns, in the order of their first appearance.
abbrev pub labels_of : List Given → List (List ℕ)
labels_of assigns = different [] (flat_map (λ a. told a.table) assigns)

-- A set of some of the labels, with one bit for each: the number of a bit is the index of its label.
abbrev pub bits_of : List (List ℕ) → List (List ℕ) → ℕ
bits_of labels [] = 0
bits_of labels (l ∷ ls) = bit_or (bits_of labels ls) (2 ^ unwrap_or (position_from (bytes_eq l) 0 labels) 0)

-- The attribute of a table, given the labels of all assigns up to its own: there are at most 64, and it removes only labels that it adds.
unfoldable pub said_of : List (List ℕ) → Members → Option Labels
said_of labels table = do
  taints ← labels_in (codes "taints") table
  untaints ← labels_in (codes "untaints") table
  if nat_lt (length labels) 65 && list_all (is_listed taints) untaints
      then Some (record { taints = bits_of labels taints; untaints = bits_of labels untaints })
      else None

-- The attribute format of the template.
abbrev pub tainting_form : Form
tainting_form = record {
  template = tainting;
  keys = optional (codes "taints") Texts ∷ optional (codes "untaints") Texts ∷ [];
  reads = λ hosts earlier a. said_of (labels_of (earlier ++ a ∷ [])) a.table;
  make = any.Tainting;
}
