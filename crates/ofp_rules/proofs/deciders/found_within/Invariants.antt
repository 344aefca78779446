use Rattle.host_net.specs.declared.packet.Packet.{Packet}
use Rattle.header_space.specs.Boxes.{IsIn, Narrows}
use Rattle.ofp_rules.specs.declared.entry.Frame.TheVariants.{Ipv4}
use Rattle.ofp_rules.specs.inner.Deciding.{IsFoundTo}
use Rattle.ofp_rules.proofs.deciders.found_within.Given as goal

abbrev pub invariant-loop-at : goal.invariant-loop-at
invariant-loop-at l = record {
  narrows : Narrows l.fn.within l.within;
  found : (p : Packet) → IsIn l.within p → IsFoundTo l.entries (Ipv4 p) l.at l.found;
}
