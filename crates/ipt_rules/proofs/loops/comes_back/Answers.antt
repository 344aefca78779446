use Rattle.std.proofs.Common.{length}
use Rattle.ipt_rules.specs.inner.Ranks.{row_of}
use Rattle.ipt_rules.proofs.LoopLemmas.{placed_not_back}
use Rattle.ipt_rules.proofs.loops.comes_back.Goals as goal

pub returns-then-is_some : goal.returns-then-is_some
returns-then-is_some c =
    placed_not_back (row_of c.args.table.now) (length c.args.table.now) c.args.topological_order.now.order.items c.args.topological_order.now.places.items c.deref.result.now c.args.chain c.place_of.result
    c.requires.order c.deref.ensures.value c.place_of.ensures c.if-is_some.ensures
