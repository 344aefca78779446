use Rattle.std.proofs.Common.{◌∙◌, inl, true}
use Rattle.std.proofs.lemmas.Result.{IfOk-weaker, err_from_is_err_and}
use Rattle.run_core.specs.Outcomes.{Answers}
use Rattle.run_core.specs.Tables.{HasRules, TableRules}
use Rattle.run_core.specs.declared.dialect.Dialect.TheVariants.{Nft}
use Rattle.query_top.specs.Flows.{flows_outcomes}
use Rattle.run_core.specs.inner.Views.{reply_in, reply_view}
use Rattle.query_top.specs.PlainRules.{plain_rules}
use Rattle.run_core.proofs.CommandPlanLaws.{went_to_outcomes}
use Rattle.query_top.proofs.flows.table_reply.Goals as goal

pub returns-in_err-read : goal.returns-in_err-read
returns-in_err-read g c =
    let p = err_from_is_err_and c.from_residual.result c.from_residual.ensures.1 in
    rw (p.1, p.2) (inl c.in_err-read.ensures)

pub table_answer-requires : goal.table_answer-requires
table_answer-requires g c = let read = c.in_ok-read.ensures in read.1 ∙ read.2.chains

pub returns : goal.returns
returns g c =
    let hosts = c.args.hosts.now in
    let read = c.in_ok-read.ensures in
    went_to_outcomes true (plain_rules Nft) c.args.rules.now (λ said. flows_outcomes Nft hosts said) _ _ read.0 c.table_answer.result (reply_in c.of_outcomes.result) read.3
    (IfOk-weaker c.table_answer.result
    (λ answer. (said : TableRules) → HasRules c.in_ok-read.read.table said → Answers true (flows_outcomes Nft hosts said) (reply_view answer))
    (λ answer. Answers true (flows_outcomes Nft hosts read.0) (reply_view answer)) (λ answer each. each read.0 read.2) c.table_answer.ensures)
    c.of_outcomes.ensures
