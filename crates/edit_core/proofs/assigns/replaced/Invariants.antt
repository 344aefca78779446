use Rattle.std.proofs.Common.{◌≡◌, ◌++◌, drop, map}
use Rattle.std.specs.Prelude.{if◌then◌else◌}
use Rattle.toml.specs.Data.{table}
use Rattle.toml.specs.View.{table_view, view}
use Rattle.edit_core.specs.Edited.{is_of_host}
use Rattle.edit_core.proofs.assigns.replaced.Given as goal

-- The values appended so far and those still to append.
abbrev pub invariant-loop-value : goal.invariant-loop-value
invariant-loop-value l =
    map view l.values.items ++ map (λ d. if is_of_host l.host d then table (table_view l.assign) else d) (map view (drop l.value-index l.assigns))
    ≡ map (λ d. if is_of_host l.host d then table (table_view l.assign) else d) (map view l.assigns)
