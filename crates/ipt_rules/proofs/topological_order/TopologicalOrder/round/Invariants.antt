use Rattle.std.proofs.Common.{◌≡◌, ◌≤◌, ◌<◌, length, true, false}
use Rattle.ipt_rules.specs.inner.Ranks.{IsPartOrder}
use Rattle.ipt_rules.proofs.RankLemmas.{StuckBelow}
use Rattle.ipt_rules.proofs.topological_order.TopologicalOrder.round.Given as goal

abbrev pub invariant-loop-chain : goal.invariant-loop-chain
invariant-loop-chain l = record {
  part : IsPartOrder l.table l.self.order.items l.self.places.items l.self.looked.items;
  longer : length l.fn.self.order.items ≤ length l.self.order.items;
  more : l.moved ≡ true → length l.fn.self.order.items < length l.self.order.items;
  rest_is_cyclic : l.moved ≡ false → StuckBelow l.table l.self.places.items l.chain;
}
