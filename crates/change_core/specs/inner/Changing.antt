-- Parts of a list of changes. Internal: callers use `Changes`.
use Rattle.std.specs.Prelude.{◌≡◌, ℕ, ◌++◌, List}
use Rattle.change_core.specs.declared.change.Change.{Change}
use Rattle.change_core.specs.declared.kind.ChangeKind.{ChangeKind}
use Rattle.pass_core.specs.declared.pairs.PairServices.{PairServices}
use Rattle.change_core.specs.inner.Naming.{name_of}

-- The change of a pair of owners by their numbers, if the new description has n hosts.
abbrev pub change_of : ChangeKind → ℕ → PairServices → Change
change_of kind n pair = record { from = name_of n pair.from; to = name_of n pair.to; kind = kind; ranges = pair.ranges }

-- The new list is the old list followed by a list with the property.
abbrev pub IsAdded : (List Change → Type 0) → (old new : List Change) → Type 0
IsAdded Listed old new = (more : List Change) × (new ≡ old ++ more) × Listed more
