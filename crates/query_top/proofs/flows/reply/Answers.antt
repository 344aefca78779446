use Rattle.std.proofs.Common.{inl, true}
use Rattle.std.proofs.lemmas.Result.{err_from_is_err_and}
use Rattle.query_top.specs.Flows.{flows_outcomes}
use Rattle.run_core.specs.CommandPlan.{reads, ends}
use Rattle.run_core.specs.inner.Views.{reply_in}
use Rattle.run_core.specs.FileFormats.{description}
use Rattle.query_top.specs.PlainRules.{plain_rules}
use Rattle.run_core.proofs.CommandPlanLaws.{went_on}
use Rattle.query_top.proofs.flows.reply.Goals as goal

pub returns-in_err-description : goal.returns-in_err-description
returns-in_err-description g c =
    let p = err_from_is_err_and c.from_residual.result c.from_residual.ensures.1 in
    rw (p.1, p.2) (inl c.in_err-description.ensures)

pub returns : goal.returns
returns g c =
    went_on true description c.args.file.now (λ x. reads (plain_rules c.args.dialect) c.args.rules.now (λ said. ends (flows_outcomes c.args.dialect x.hosts said))) _ _ _
    c.in_ok-description.description (reply_in c.reply_for.result) c.in_ok-description.ensures (rw c.hosts.ensures.value at c.reply_for.ensures)
