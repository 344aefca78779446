-- The models of what the code of `edit` reads. No promise of `run` depends on it.
use Rattle.std.specs.Prelude.{ℕ, List, Result, map}
use Rattle.std.specs.Global.{Global}
use Rattle.std.specs.Result.{result_map_both}
use Rattle.std.specs.declared.vec.Vec.{Vec}
use Rattle.edit_core.specs.Edit as meant
use Rattle.edit_core.specs.inner.EditView.{edit_view}
use Rattle.edit_core.specs.inner.Kept.{table_of}
use Rattle.edit_core.specs.declared.edit.Edit.{Edit as CodeEdit}
use Rattle.run_core.specs.Reply.{Reply}
use Rattle.run_core.specs.inner.Views.{reply_view}
use Rattle.run_core.specs.declared.answer.Answer.{Answer}
use Rattle.toml.specs.Data.{Members}
use Rattle.toml.specs.declared.value.Value.{Value}

-- An edited description, as its table.
abbrev pub session_view : Result (List (List ℕ × Value)) Answer → Result Members Reply
session_view outcome = result_map_both table_of reply_view outcome

-- A list of edits, as their models.
abbrev pub edits_view : Result (Vec CodeEdit Global) Answer → Result (List meant.Edit) Reply
edits_view outcome = result_map_both (λ edits. map edit_view edits.items) reply_view outcome
