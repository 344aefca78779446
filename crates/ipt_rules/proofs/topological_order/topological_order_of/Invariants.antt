use Rattle.std.proofs.Common.{◌-◌, length}
use Rattle.ipt_rules.specs.inner.Ranks.{IsPartOrder}
use Rattle.ipt_rules.proofs.topological_order.topological_order_of.Given as goal

abbrev pub decreases-loop-topological_order : goal.decreases-loop-topological_order
decreases-loop-topological_order l = length l.table - length l.topological_order.order.items

abbrev pub invariant-loop-topological_order : goal.invariant-loop-topological_order
invariant-loop-topological_order l = IsPartOrder l.table l.topological_order.order.items l.topological_order.places.items l.topological_order.looked.items
