use Rattle.std.proofs.Common.{inl, subst, true}
use Rattle.std.proofs.lemmas.Result.{err_from_is_err_and}
use Rattle.std.specs.Prelude.{IfOk}
use Rattle.rules_space.specs.Rules.{AnyRules}
use Rattle.query_top.specs.Flows.{IsFlowsAnswer, flows_outcomes}
use Rattle.run_core.specs.Outcomes.{Answers, writes}
use Rattle.run_core.specs.declared.dialect.Dialect.TheVariants.{Iptables}
use Rattle.run_core.specs.inner.Views.{reply_in, reply_view}
use Rattle.query_top.specs.PlainRules.{plain_rules}
use Rattle.run_core.proofs.CommandPlanLaws.{went_to_outcomes}
use Rattle.query_top.proofs.flows.chains_reply.Goals as goal

pub returns-in_err-rules : goal.returns-in_err-rules
returns-in_err-rules g c =
    let p = err_from_is_err_and c.from_residual.result c.from_residual.ensures.1 in
    rw (p.1, p.2) (inl c.in_err-rules.ensures)

pub returns : goal.returns
returns g c =
    let hosts = c.args.hosts.now in
    let rules = c.in_ok-rules.ensures in
    went_to_outcomes true (plain_rules Iptables) c.args.rules.now (λ said. flows_outcomes Iptables hosts said) _ _ rules.said c.answer.result (reply_in c.of_outcomes.result) rules.read
    (subst (λ (audited : AnyRules). IfOk c.answer.result (λ answer. Answers true (writes (IsFlowsAnswer hosts audited) (IsFlowsAnswer hosts audited)) (reply_view answer))) rules.told c.answer.ensures) c.of_outcomes.ensures
