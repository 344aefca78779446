use Rattle.std.proofs.lemmas.Result.{IfOk-weaker}
use Rattle.compare_json.proofs.CompareLaws.{differences_fit}
use Rattle.run_core.specs.inner.Views.{reply_view, rules_view}
use Rattle.run_core.proofs.OfPolicyLaws.{sides_for}
use Rattle.query_top.proofs.CompareLaws.{ends_compared}
use Rattle.query_top.proofs.compare.answer.Goals as goal

pub differences_answer-requires : goal.differences_answer-requires
differences_answer-requires c =
    let are = rw (c.policy_between.ensures, c.audited-rules.ensures) at c.in_ok-differences.ensures.differences in
    rw (c.hosts.ensures.value, c.deref.ensures.value)
    (differences_fit (sides_for c.args.description.now (rules_view c.args.rules.now) c.in_ok-policy.policy) c.in_ok-differences.differences.items are)

pub returns : goal.returns
returns c =
    let gives = rw c.audited-rules.ensures at c.rules.ensures.gives in
    let are = rw (c.policy_between.ensures, c.audited-rules.ensures) at c.in_ok-differences.ensures.differences in
    let complete = rw (c.policy_between.ensures, c.audited-rules.ensures) at c.in_ok-differences.ensures.complete in
    let exact = rw (c.policy_between.ensures, c.audited-rules.ensures) at c.in_ok-differences.ensures.exact in
    let told = rw (c.hosts.ensures.value, c.deref.ensures.value) at c.differences_answer.ensures in
    IfOk-weaker c.differences_answer.result _ _
    (λ answer is. ends_compared c.args.description.now (rules_view c.args.rules.now) c.in_ok-policy.policy c.in_ok-policy.ensures.policy gives (reply_view answer)
    c.in_ok-differences.differences.items are complete exact is)
    told
