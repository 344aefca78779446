use Rattle.std.proofs.Common.{◌≡◌, ◌≤◌, length, arith}
use Rattle.ipt_rules.proofs.BuildLemmas.{few_of, known_of}
use Rattle.ipt_rules.proofs.TableLemmas.{long_table, rows_inside, loop_said}
use Rattle.ipt_rules.proofs.loops.find_cycle.Goals as goal

pub topological_order_of-requires : goal.topological_order_of-requires
topological_order_of-requires c =
    let few : length c.args.chains.now ≤ 4096 = few_of c.args.chains.now c.requires in
    let long : length c.in_ok-table.table ≡ length c.args.chains.now = long_table c.args.chains.now c.in_ok-table.table c.in_ok-table.ensures in
    record { few = omega (arith, few, long) }

pub first_cycle-requires-clause-inside : goal.first_cycle-requires-clause-inside
first_cycle-requires-clause-inside c =
    rows_inside c.args.chains.now c.in_ok-table.table c.in_ok-table.ensures (known_of c.args.chains.now c.requires)

pub returns : goal.returns
returns c =
    loop_said c.args.chains.now c.in_ok-table.table c.in_ok-topological_order.topological_order.order.items c.in_ok-topological_order.topological_order.places.items c.in_ok-topological_order.topological_order.looked.items c.in_ok-found.found
    c.in_ok-table.ensures (known_of c.args.chains.now c.requires) c.in_ok-topological_order.ensures.part c.in_ok-topological_order.ensures.rest_is_cyclic c.in_ok-found.ensures.back c.in_ok-found.ensures.least c.in_ok-found.ensures.none
