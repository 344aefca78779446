use Rattle.std.proofs.Common.{inl, false}
use Rattle.std.proofs.lemmas.Result.{err_from_is_err_and}
use Rattle.edit_core.specs.inner.Kept.{table_of}
use Rattle.run_core.specs.CommandPlan.{reads, ends}
use Rattle.topos_top.specs.Edit.{edit_outcomes}
use Rattle.run_core.specs.inner.Views.{reply_in}
use Rattle.topos_top.specs.FileFormats.{edited, edits}
use Rattle.run_core.proofs.CommandPlanLaws.{went_on}
use Rattle.topos_top.proofs.edit.reply.Goals as goal

pub returns-in_err-session : goal.returns-in_err-session
returns-in_err-session g c =
    let p = err_from_is_err_and c.from_residual.result c.from_residual.ensures.1 in
    rw (p.1, p.2) (inl c.in_err-session.ensures)

pub returns : goal.returns
returns g c =
    went_on false edited c.args.file.now (λ t. reads edits c.args.edits.now (λ es. ends (edit_outcomes t es))) _ _ _
    (table_of c.in_ok-session.session) (reply_in c.reply_for.result) c.in_ok-session.ensures c.reply_for.ensures
