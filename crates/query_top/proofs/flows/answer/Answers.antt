use Rattle.std.proofs.Common.{◌≡◌, ℕ, List, inl, refl, subst, sym, true}
use Rattle.rules_space.specs.Rules.{AnyRules}
use Rattle.host_net.specs.Host.{Host}
use Rattle.flows_json.proofs.FlowsLaws.{flows_fit}
use Rattle.query_top.proofs.FlowsLaws.{are_complete}
use Rattle.query_top.specs.Flows.{IsFlowsAnswer}
use Rattle.run_core.specs.Outcomes.{Answers, writes}
use Rattle.run_core.specs.Reply.{Reply}
use Rattle.run_core.specs.inner.Views.{reply_on, reply_view, rules_view}
use Rattle.run_core.specs.declared.status.Status.TheVariants.{Done}
use Rattle.run_core.specs.declared.status.Stream.TheVariants.{Output}
use Rattle.query_top.proofs.flows.answer.Goals as goal

-- The text with the flows is that of an outcome.
answers_flows : (hosts : List Host) (rules : AnyRules) (text : List ℕ) (given : Reply) → IsFlowsAnswer hosts rules text → given ≡ reply_on Done Output text
    → Answers true (writes (IsFlowsAnswer hosts rules) (IsFlowsAnswer hosts rules)) given
answers_flows hosts rules text given answer is =
    subst (λ (r : Reply). Answers true (writes (IsFlowsAnswer hosts rules) (IsFlowsAnswer hosts rules)) r) (sym is) (refl, inl (refl, tt, answer))

pub flows_json-requires : goal.flows_json-requires
flows_json-requires c =
    let are = rw c.audited-rules.ensures at c.in_ok-flows.ensures in
    rw c.deref.ensures.value (flows_fit (rules_view c.args.rules.now) c.args.hosts.now c.in_ok-flows.flows.items are)

pub returns : goal.returns
returns c =
    let are = rw c.audited-rules.ensures at c.in_ok-flows.ensures in
    let are_dead = rw c.audited-rules.ensures at c.in_ok-dead.ensures.dead in
    let removable = rw c.audited-rules.ensures at c.in_ok-dead.ensures.removable in
    let complete = are_complete (rules_view c.args.rules.now) c.args.hosts.now c.in_ok-flows.flows.items are in
    let written = rw (c.deref.ensures.value, c.deref-2.ensures.value, c.audited-rules.ensures) at c.in_ok-text.ensures in
    answers_flows c.args.hosts.now (rules_view c.args.rules.now) c.in_ok-text.text.items (reply_view c.done.result)
    (record {
      flows = c.in_ok-flows.flows.items;
      are = are;
      complete = complete;
      dead = c.in_ok-dead.dead.items;
      are_dead = are_dead;
      removable = removable;
      written = written;
    }) c.done.ensures
