use Rattle.ipt_rules.proofs.RankLemmas.{nothing_yet}
use Rattle.ipt_rules.proofs.topological_order.TopologicalOrder.new.Goals as goal

pub returns : goal.returns
returns c =
    nothing_yet c.args.table.now c.len.result c.len-2.result c.new.result.items c.in_ok-no_places.field-0.items c.in_ok-vec.field-0.items c.requires.few c.len.ensures c.len-2.ensures c.new.ensures.items c.in_ok-no_places.ensures (c.in_ok-vec.ensures.items_if_clones_equal (λ y h. h))
