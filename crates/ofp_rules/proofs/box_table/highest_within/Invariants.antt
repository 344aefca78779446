use Rattle.std.proofs.Common.{take}
use Rattle.std.specs.Option.{option_copied}
use Rattle.host_net.specs.declared.packet.Packet.{Packet}
use Rattle.header_space.specs.Boxes.{IsIn, Narrows}
use Rattle.ofp_rules.specs.declared.entry.Frame.TheVariants.{Ipv4}
use Rattle.ofp_rules.specs.inner.Highest.{IsFound}
use Rattle.ofp_rules.proofs.box_table.highest_within.Given as goal

abbrev pub invariant-loop-at : goal.invariant-loop-at
invariant-loop-at l = record {
  narrows : Narrows l.fn.within l.within;
  found : (p : Packet) → IsIn l.within p → IsFound (take l.at l.entries) (Ipv4 p) (option_copied l.found);
}
