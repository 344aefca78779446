-- The progress of a visit of a box. Not visible to callers, which use the clauses of `visit_all`.
use Rattle.std.specs.Prelude.{◌⊎◌, ◌+◌, ◌<◌, List}
use Rattle.host_net.specs.declared.packet.Packet.{Packet}
use Rattle.header_space.specs.declared.packet_box.PacketBox.{PacketBox}
use Rattle.header_space.specs.Boxes.{IsIn}
use Rattle.header_space.specs.inner.Splitting.{AreWithin, IsAmong, IsWithin, volume, volumes}

-- The visit of a part of box b: each packet of b is known or in a pending box.
pub record Visits (Knows : Packet → Type 0) (b : PacketBox) (old new : List PacketBox) : Type 0 where
  pub fewer : volumes new < volumes old + volume b
  pub packets : (p : Packet) → IsIn b p → Knows p ⊎ IsAmong new p
  pub kept : (p : Packet) → IsAmong old p → IsAmong new p
  pub within : (whole : PacketBox) → AreWithin whole old → IsWithin whole b → AreWithin whole new

-- The invariant of a visit of box `whole`: each of its packets is known or in a pending box.
pub record IsUnderWay (Knows : Packet → Type 0) (whole : PacketBox) (bs : List PacketBox) : Type 0 where
  pub are : AreWithin whole bs
  pub left : (p : Packet) → IsIn whole p → Knows p ⊎ IsAmong bs p
