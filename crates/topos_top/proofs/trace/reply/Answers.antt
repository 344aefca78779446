use Rattle.std.proofs.Common.{inl, false}
use Rattle.std.proofs.lemmas.Result.{err_from_is_err_and}
use Rattle.run_core.specs.CommandPlan.{reads, ends}
use Rattle.run_core.specs.Dialects.{rule_dialect_of}
use Rattle.topos_top.specs.Trace.{trace_outcomes}
use Rattle.run_core.specs.inner.Views.{reply_in}
use Rattle.topos_top.specs.FileFormats.{events, rules}
use Rattle.run_core.proofs.CommandPlanLaws.{went_on}
use Rattle.topos_top.proofs.trace.reply.Goals as goal

pub returns-in_err-rules : goal.returns-in_err-rules
returns-in_err-rules g c =
    let p = err_from_is_err_and c.from_residual.result c.from_residual.ensures.1 in
    rw (p.1, p.2) (inl c.in_err-rules.ensures)

pub returns : goal.returns
returns g c =
    let read = c.in_ok-rules.ensures in
    went_on false (rules c.args.dialect) c.args.rules.now (λ said. reads events c.args.events.now (λ es. ends (trace_outcomes ((rule_dialect_of c.args.dialect).filter said) es))) _ _ _
    read.said (reply_in c.reply_for.result) read.read
    (c.reply_for.ensures read.said (read.told, read.read.0, read.read.2))
