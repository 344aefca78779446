use Rattle.std.proofs.Common.{inl, false, map}
use Rattle.std.proofs.lemmas.Result.{err_from_is_err_and}
use Rattle.edit_core.specs.inner.EditView.{edit_view}
use Rattle.edit_core.specs.inner.Kept.{table_of}
use Rattle.topos_top.specs.Edit.{edit_outcomes}
use Rattle.run_core.specs.inner.Views.{reply_in}
use Rattle.topos_top.specs.FileFormats.{edits}
use Rattle.run_core.proofs.CommandPlanLaws.{went_to_outcomes}
use Rattle.topos_top.proofs.edit.reply_for.Goals as goal

pub returns-in_err-edits : goal.returns-in_err-edits
returns-in_err-edits g c =
    let p = err_from_is_err_and c.from_residual.result c.from_residual.ensures.1 in
    rw (p.1, p.2) (inl c.in_err-edits.ensures)

pub returns : goal.returns
returns g c =
    went_to_outcomes false edits c.args.edits.now (edit_outcomes (table_of c.args.session.now)) _ _ (map edit_view c.in_ok-edits.edits.items) c.answer.result (reply_in c.of_outcomes.result)
    c.in_ok-edits.ensures (rw c.deref.ensures.value at c.answer.ensures) c.of_outcomes.ensures
