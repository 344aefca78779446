-- The model of the code's edits.
use Rattle.std.specs.Prelude.{map, string_bytes}
use Rattle.toml.specs.View.{table_view}
use Rattle.edit_core.specs.Edit as meant
use Rattle.edit_core.specs.declared.edit.Change.{Change}
use Rattle.edit_core.specs.declared.edit.Change.TheVariants.{Add, Remove, Set, Unset}
use Rattle.edit_core.specs.declared.edit.Edit.{Edit}

abbrev pub change_view : Change → meant.Change
change_view (Add words) = meant.Add (map string_bytes words.items)
change_view (Remove from to) = meant.Remove (string_bytes from) (string_bytes to)
change_view (Set invariant assign) = meant.Set invariant (table_view assign)
change_view (Unset invariant host) = meant.Unset invariant (string_bytes host)

abbrev pub edit_view : Edit → meant.Edit
edit_view e = record { line = e.line; change = change_view e.change }
