use Rattle.std.proofs.Common.{ℕ, List, subst}
use Rattle.std.specs.Result.{result_map_both}
use Rattle.toml.specs.View.{table_view}
use Rattle.edit_core.specs.Edit.{Unset}
use Rattle.edit_core.specs.Edited.{edited}
use Rattle.edit_core.specs.inner.EditFaults.{Gives}
use Rattle.edit_core.proofs.table.edited.Goals as goal

pub returns-in-Set : goal.returns-in-Set
unfolding edited
returns-in-Set c = rw c.in-Set.is c.set_in.ensures

pub returns-in-Unset : goal.returns-in-Unset
returns-in-Unset c =
    rw c.in-Unset.is
    (subst (λ (host : List ℕ). Gives (edited (Unset c.in-Unset.invariant host) (table_view c.args.table.now)) (result_map_both table_view (λ fault. fault) c.unset_in.result)) c.as_str-in-Unset.ensures.value c.unset_in.ensures)
