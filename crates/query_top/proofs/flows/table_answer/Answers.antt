use Rattle.std.proofs.Common.{◌≡◌, inl, refl, subst, sym, true, ℕ, List}
use Rattle.host_net.specs.Host.{Host}
use Rattle.flows_json.proofs.FlowsLaws.{table_flows_fit}
use Rattle.query_top.proofs.FlowsLaws.{table_is_complete}
use Rattle.query_top.specs.Flows.{flows_outcomes}
use Rattle.query_top.specs.TableFlows.{IsTableFlowsAnswer}
use Rattle.run_core.specs.Outcomes.{Answers}
use Rattle.run_core.specs.Reply.{Reply}
use Rattle.run_core.specs.Tables.{TableRules}
use Rattle.run_core.specs.inner.Views.{reply_on, reply_view}
use Rattle.run_core.specs.declared.dialect.Dialect.TheVariants.{Nft}
use Rattle.run_core.specs.declared.status.Status.TheVariants.{Done}
use Rattle.run_core.specs.declared.status.Stream.TheVariants.{Output}
use Rattle.query_top.proofs.flows.table_answer.Goals as goal

answers_flows : (hosts : List Host) (rules : TableRules) (text : List ℕ) (given : Reply) → IsTableFlowsAnswer hosts rules text → given ≡ reply_on Done Output text
    → Answers true (flows_outcomes Nft hosts rules) given
answers_flows hosts rules text given answer is =
    subst (λ (r : Reply). Answers true (flows_outcomes Nft hosts rules) r) (sym is) (refl, inl (refl, tt, answer))

pub table_flows_json-requires : goal.table_flows_json-requires
table_flows_json-requires c =
    rw c.deref.ensures.value (table_flows_fit c.args.read.now.table c.args.hosts.now c.in_ok-flows.flows.items c.in_ok-flows.ensures)

pub returns : goal.returns
returns c = λ said has.
    let written = rw (c.deref.ensures.value, c.deref-2.ensures.value, c.table.ensures.value) at c.in_ok-text.ensures in
    answers_flows c.args.hosts.now said c.in_ok-text.text.items (reply_view c.done.result)
    (record {
      table = c.args.read.now.table;
      has_rules = has;
      flows = c.in_ok-flows.flows.items;
      are = c.in_ok-flows.ensures;
      complete = table_is_complete c.args.read.now.table c.args.hosts.now c.in_ok-flows.flows.items c.in_ok-flows.ensures;
      dead = c.in_ok-dead.dead.items;
      are_dead = c.in_ok-dead.ensures.dead;
      removable = c.in_ok-dead.ensures.removable;
      written = written;
    }) c.done.ensures
