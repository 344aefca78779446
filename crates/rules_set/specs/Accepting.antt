-- The packets that chains forward, as a set.
use Rattle.std.specs.Prelude.{ℕ, ◌<◌, List, length}
use Rattle.host_net.specs.declared.packet.Packet.{Packet}
use Rattle.host_net.specs.declared.packet.CtState.{CtState}
use Rattle.header_space.specs.declared.packet_box.PacketBox.{PacketBox}
use Rattle.header_space.specs.Boxes.{IsIn}
use Rattle.ipt_rules.specs.Chain.{Chain}
use Rattle.ipt_rules.specs.Semantics.{PassesChains}
use Rattle.packet_set.specs.declared.node.Node.{Node}
use Rattle.packet_set.specs.Nodes.{has}

-- The set has exactly the packets of the box that the chains forward in the state. It may have packets outside the box.
pub record IsAcceptedBy (nodes : List Node) (chains : List Chain) (state : CtState) (b : PacketBox) (set : ℕ) : Type 0 where
  pub there : set < length nodes
  pub exact : (p : Packet) → IsIn b p → PassesChains chains state p (has nodes set p)
