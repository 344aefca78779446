use Rattle.std.proofs.Common.{inl, true}
use Rattle.std.proofs.lemmas.Result.{err_from_is_err_and}
use Rattle.run_core.specs.inner.Views.{reply_in}
use Rattle.run_core.specs.FileFormats.{description}
use Rattle.run_core.proofs.CommandPlanLaws.{went_to_outcomes}
use Rattle.query_top.specs.Why.{why_outcomes}
use Rattle.query_top.proofs.why.reply.Goals as goal

pub returns-in_err-description : goal.returns-in_err-description
returns-in_err-description g c =
    let p = err_from_is_err_and c.from_residual.result c.from_residual.ensures.1 in
    rw (p.1, p.2) (inl c.in_err-description.ensures)

pub returns : goal.returns
returns g c =
    went_to_outcomes true description c.args.file.now (λ x. why_outcomes x c.args.from.now c.args.to.now) _ _ c.in_ok-description.description c.answer.result (reply_in c.of_outcomes.result) c.in_ok-description.ensures c.answer.ensures c.of_outcomes.ensures
