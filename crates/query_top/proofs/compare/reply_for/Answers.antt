use Rattle.std.proofs.Common.{inl, subst, true}
use Rattle.std.proofs.lemmas.Result.{err_from_is_err_and}
use Rattle.std.specs.Prelude.{IfOk}
use Rattle.rules_space.specs.Rules.{AnyRules, filter_of}
use Rattle.run_core.specs.Dialects.{rule_dialect_of}
use Rattle.query_top.specs.Compare.{compare_outcomes}
use Rattle.run_core.specs.Outcomes.{Answers}
use Rattle.run_core.specs.inner.Views.{reply_in, reply_view}
use Rattle.query_top.specs.PlainRules.{plain_rules}
use Rattle.run_core.proofs.CommandPlanLaws.{went_to_outcomes}
use Rattle.query_top.proofs.compare.reply_for.Goals as goal

pub returns-in_err-rules : goal.returns-in_err-rules
returns-in_err-rules g c =
    let p = err_from_is_err_and c.from_residual.result c.from_residual.ensures.1 in
    rw (p.1, p.2) (inl c.in_err-rules.ensures)

pub returns : goal.returns
returns g c =
    let d = c.args.description.now in
    let rules = c.in_ok-rules.ensures in
    went_to_outcomes true (plain_rules c.args.dialect) c.args.rules.now (λ said. compare_outcomes d ((rule_dialect_of c.args.dialect).filter said) ((rule_dialect_of c.args.dialect).audited said)) _ _ rules.said c.answer.result (reply_in c.of_outcomes.result) rules.read
    (subst (λ (audited : AnyRules). IfOk c.answer.result (λ answer. Answers true (compare_outcomes d (filter_of audited) audited) (reply_view answer))) rules.told c.answer.ensures) c.of_outcomes.ensures
