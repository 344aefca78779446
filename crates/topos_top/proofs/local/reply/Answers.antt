use Rattle.std.proofs.Common.{inl, false}
use Rattle.std.proofs.lemmas.Result.{err_from_is_err_and}
use Rattle.topos_top.specs.Local.{local_outcomes}
use Rattle.topos_top.specs.inner.Local.{local_dialect_of}
use Rattle.run_core.specs.inner.Views.{reply_in}
use Rattle.run_core.specs.FileFormats.{description}
use Rattle.run_core.proofs.CommandPlanLaws.{went_to_outcomes}
use Rattle.topos_top.proofs.local.reply.Goals as goal

pub returns-in_err-description : goal.returns-in_err-description
returns-in_err-description g c =
    let p = err_from_is_err_and c.from_residual.result c.from_residual.ensures.1 in
    rw (p.1, p.2) (inl c.in_err-description.ensures)

pub returns : goal.returns
returns g c =
    went_to_outcomes false description c.args.file.now (λ x. local_outcomes (local_dialect_of c.args.dialect) x c.args.host.now) _ _ c.in_ok-description.description c.answer.result (reply_in c.of_outcomes.result) c.in_ok-description.ensures c.answer.ensures c.of_outcomes.ensures
