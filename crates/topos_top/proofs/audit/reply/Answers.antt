use Rattle.std.proofs.Common.{inl, true}
use Rattle.std.proofs.lemmas.Result.{err_from_is_err_and}
use Rattle.topos_top.specs.Audit.{audit_outcomes}
use Rattle.run_core.specs.Dialects.{rule_dialect_of}
use Rattle.run_core.specs.CommandPlan.{reads, ends}
use Rattle.run_core.specs.inner.Views.{reply_in}
use Rattle.run_core.specs.FileFormats.{description}
use Rattle.topos_top.specs.FileFormats.{rules}
use Rattle.run_core.proofs.CommandPlanLaws.{went_on}
use Rattle.topos_top.proofs.audit.reply.Goals as goal

pub returns-in_err-description : goal.returns-in_err-description
returns-in_err-description g c =
    let p = err_from_is_err_and c.from_residual.result c.from_residual.ensures.1 in
    rw (p.1, p.2) (inl c.in_err-description.ensures)

pub returns : goal.returns
returns g c =
    went_on true description c.args.file.now (λ x. reads (rules c.args.dialect) c.args.rules.now (λ said. ends (audit_outcomes x ((rule_dialect_of c.args.dialect).filter said) ((rule_dialect_of c.args.dialect).audited said)))) _ _ _
    c.in_ok-description.description (reply_in c.reply_for.result) c.in_ok-description.ensures c.reply_for.ensures
