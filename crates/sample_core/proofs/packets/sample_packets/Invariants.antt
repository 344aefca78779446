use Rattle.std.proofs.Common.{◌≡◌, ◌++◌, map}
use Rattle.flow_set.specs.EveryFlow.{every_flow}
use Rattle.sample_core.specs.Sample.{packet_between}
use Rattle.sample_core.proofs.packets.sample_packets.Given as goal

-- There is a packet for each flow so far.
abbrev pub invariant-loop-flow : goal.invariant-loop-flow
invariant-loop-flow l = record {
  walk : l.yielded ++ l.flow-iterator ≡ every_flow l.count;
  packets : l.packets.items ≡ map packet_between l.yielded;
}
