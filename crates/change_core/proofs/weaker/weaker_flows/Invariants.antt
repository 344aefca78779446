use Rattle.std.proofs.Common.{◌≡◌, ◌++◌}
use Rattle.std.specs.List.{flat_map}
use Rattle.change_core.specs.inner.Listing.{weaker_of}
use Rattle.change_core.proofs.weaker.weaker_flows.Given as goal

abbrev pub invariant-loop-flow : goal.invariant-loop-flow
invariant-loop-flow l = record {
  listed : l.list.items ≡ flat_map (weaker_of l.new_services l.old_services l.denied.flows l.rows.items) l.yielded;
  walk : l.yielded ++ l.flow-iterator ≡ l.free.flows;
}
