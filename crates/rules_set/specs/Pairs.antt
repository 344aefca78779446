-- The packets from one set of addresses to another that rules forward, and those that they do not, as sets.
use Rattle.std.specs.Prelude.{◌≡◌, ◌⊎◌, ◌<◌, not, true, List, length}
use Rattle.host_net.specs.declared.packet.Packet.{Packet}
use Rattle.host_net.specs.declared.packet.CtState.{CtState}
use Rattle.host_net.specs.Packet.{IsPacket}
use Rattle.header_space.specs.declared.address_range.AddressRange.{AddressRange}
use Rattle.header_space.specs.Owners.{GoesBetween}
use Rattle.ipt_rules.specs.Chain.{Chain}
use Rattle.ipt_rules.specs.Semantics.{PassesChains}
use Rattle.packet_set.specs.declared.node.Node.{Node}
use Rattle.packet_set.specs.Nodes.{has}
use Rattle.rules_set.specs.declared.pair.PairSets.{PairSets}

-- Each packet from the addresses `from` to the addresses `to` is in set `passing` if the chains forward it in the state, and otherwise in
-- set `staying`. Neither set has other packets.
pub record ArePairSets (chains : List Chain) (state : CtState) (from to : List AddressRange) (nodes : List Node) (s : PairSets) : Type 0 where
  pub passing_there : s.passing < length nodes
  pub staying_there : s.staying < length nodes
  pub passes : (p : Packet) → GoesBetween from to p → PassesChains chains state p (has nodes s.passing p)
  pub stays : (p : Packet) → GoesBetween from to p → has nodes s.staying p ≡ not (has nodes s.passing p)
  pub between : (p : Packet) → IsPacket p → (has nodes s.passing p ≡ true) ⊎ (has nodes s.staying p ≡ true) → GoesBetween from to p
