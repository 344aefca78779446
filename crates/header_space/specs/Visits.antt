-- Inclusion of boxes.
use Rattle.host_net.specs.declared.packet.Packet.{Packet}
use Rattle.header_space.specs.declared.packet_box.PacketBox.{PacketBox}
use Rattle.header_space.specs.Boxes.{IsIn}

-- Each packet of box `part` is a packet of box b.
abbrev pub HasOnlyPacketsOf : PacketBox → PacketBox → Type 0
HasOnlyPacketsOf b part = (p : Packet) → IsIn part p → IsIn b p
