-- Boxes of the packets of services. Internal: callers use `ServiceRanges`.
use Rattle.std.specs.Prelude.{◌⊎◌, ◌↔◌, ◌≤◌, List}
use Rattle.std.specs.List.{All}
use Rattle.host_net.specs.declared.packet.Packet.{Packet}
use Rattle.host_net.specs.Packet.{IsPacket}
use Rattle.header_space.specs.declared.packet_box.PacketBox.{PacketBox}
use Rattle.header_space.specs.Boxes.{IsBox}
use Rattle.header_space.specs.declared.address_range.AddressRange.{AddressRange}
use Rattle.header_space.specs.Owners.{LiesIn}
use Rattle.decide_core.specs.declared.service_block.ServiceBlock.{ServiceBlock}
use Rattle.decide_core.specs.Deciders.{IsInOne}

-- The packet goes from one range of addresses to another, with a protocol and a destination port of the block.
pub record HasServiceOf (from to : AddressRange) (block : ServiceBlock) (p : Packet) : Type 0 where
  pub packet : IsPacket p
  pub src : LiesIn from p.src
  pub dst : LiesIn to p.dst
  pub low_proto : block.low_proto ≤ p.proto
  pub high_proto : p.proto ≤ block.high_proto
  pub low_port : block.low_port ≤ p.dport
  pub high_port : p.dport ≤ block.high_port

-- The new boxes contain the packets of the old boxes and the packets `Among`, and no others.
pub record AddsBoxes (Among : Packet → Type 0) (old new : List PacketBox) : Type 0 where
  pub boxes : All IsBox old → All IsBox new
  pub exact : (p : Packet) → IsInOne new p ↔ (IsInOne old p ⊎ Among p)
