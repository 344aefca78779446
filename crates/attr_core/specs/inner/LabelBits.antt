-- The labels of the hosts of an invariant, as its assigns list them. The number of a label is its index among those of all assigns.
use Rattle.std.specs.Prelude.{◌≡◌, ◌<◌, ◌↔◌, ℕ, List, [], length, slice_index_or, Option, Some, None, IsTrue, codes, unwrap_or}
use Rattle.std.specs.List.{position_from}
use Rattle.std.specs.Str.{bytes_eq}
use Rattle.inv_any.specs.declared.any_inv.AnyInv.{AnyInv}
use Rattle.inv_any.specs.declared.any_inv.AnyInv.TheVariants as any
use Rattle.tmpl_levels.specs.Tainting.{HasLabel, untainted}
use Rattle.tmpl_levels.specs.declared.tainting.Labels.{Labels}
use Rattle.attr_core.specs.Assigns.{Given}
use Rattle.attr_core.specs.Forms.{last_assigned}
use Rattle.attr_core.specs.Tainting.{is_listed, labels_in, labels_of}

-- The last assign for the host.
abbrev pub assign_of : List Given → ℕ → Option Given
assign_of assigns host = last_assigned (λ earlier a. Some a) [] host assigns

-- The labels that it lists at a key; none if no assign is for the host.
abbrev pub listed_at : List ℕ → Option Given → List (List ℕ)
listed_at key None = []
listed_at key (Some a) = unwrap_or (labels_in key a.table) []

-- The set contains exactly the numbers of the listed labels.
abbrev pub HasListed : List (List ℕ) → List (List ℕ) → ℕ → Type 0
HasListed labels listed set =
    (number : ℕ) → HasLabel set number
    ↔ ((label : List ℕ) × IsTrue (is_listed listed label) × (position_from (bytes_eq label) 0 labels ≡ Some number))

-- The host has, and removes, the labels that its assign lists.
pub record HasItsLabels (labels : List (List ℕ)) (a : Option Given) (host : Labels) : Type 0 where
  pub put_on : HasListed labels (listed_at (codes "taints") a) host.taints
  pub taken_off : HasListed labels (listed_at (codes "untaints") a) host.untaints

-- The same for each host of an invariant of labels.
unfoldable pub HaveTheirLabels : List Given → AnyInv → Type 0
HaveTheirLabels assigns (any.Tainting hosts) =
    (host : ℕ) → host < length hosts → HasItsLabels (labels_of assigns) (assign_of assigns host) (slice_index_or hosts host untainted)
HaveTheirLabels assigns other = Unit {0}
