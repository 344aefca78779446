use Rattle.std.proofs.lemmas.Result.{IfOk-weaker}
use Rattle.run_core.specs.inner.Views.{rules_view}
use Rattle.topos_top.proofs.AuditLaws.{ends_found}
use Rattle.topos_top.proofs.audit.answer.Goals as goal

pub returns-in-Ok : goal.returns-in-Ok
returns-in-Ok c =
    let gives = rw c.audited-rules.ensures at c.rules.ensures.gives in
    let few = rw (c.policy_between.ensures, c.audited-rules.ensures) at c.in-Ok.ensures.few in
    let found = rw (c.policy_between.ensures, c.audited-rules.ensures) at c.in-Ok.ensures.found in
    IfOk-weaker c.told.result _ _
    (λ answer is. ends_found c.args.description.now (rules_view c.args.rules.now) c.in_ok-policy.policy c.in_ok-policy.ensures.policy _ c.in-Ok.finding gives few found is)
    c.told.ensures
