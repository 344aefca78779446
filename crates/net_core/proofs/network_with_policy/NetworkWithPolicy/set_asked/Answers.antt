use Rattle.std.proofs.Common.{sym, ◌∙◌}
use Rattle.net_core.proofs.AskedLemmas.{asked_already, other_test, same_test}
use Rattle.net_core.proofs.network_with_policy.NetworkWithPolicy.set_asked.Goals as goal

pub returns-then-asks_for-asked-clause-asked : goal.returns-then-asks_for-asked-clause-asked
returns-then-asks_for-asked-clause-asked c =
    asked_already c.args.asked c.args.self.now.network c.args.flow c.asks_for.ensures.set.ordered
    (sym c.asks_for.ensures.value ∙ same_test c.asks_for.result c.args.asked c.if-asks_for-asked.true)

pub update_edge_wise-requires-clause-other : goal.update_edge_wise-requires-clause-other
update_edge_wise-requires-clause-other c = sym c.asks_for.ensures.value ∙ other_test c.asks_for.result c.args.asked c.if-asks_for-asked.false

pub recompute-requires-clause-other : goal.recompute-requires-clause-other
recompute-requires-clause-other c = sym c.asks_for.ensures.value ∙ other_test c.asks_for.result c.args.asked c.if-asks_for-asked.false
