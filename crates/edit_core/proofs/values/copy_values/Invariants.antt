use Rattle.std.proofs.Common.{◌≡◌, ◌++◌, drop, map}
use Rattle.toml.specs.View.{view}
use Rattle.edit_core.proofs.values.copy_values.Given as goal

-- The copies so far followed by the remaining values are all values.
abbrev pub invariant-loop-value : goal.invariant-loop-value
invariant-loop-value l = map view l.copies.items ++ map view (drop l.value-index l.values) ≡ map view l.values
