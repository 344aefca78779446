-- The flow of the packets of a box.
use Rattle.std.specs.Prelude.{◌≡◌, List, Option}
use Rattle.host_net.specs.declared.packet.Packet.{Packet}
use Rattle.host_net.specs.Host.{Host}
use Rattle.flow_set.specs.declared.flow.Flow.{Flow}
use Rattle.header_space.specs.declared.packet_box.PacketBox.{PacketBox}
use Rattle.header_space.specs.Boxes.{IsIn}
use Rattle.pkt_core.specs.FlowPolicy.{flow_of}

-- All packets of the box belong to this flow, or to no flow if it is `None`.
abbrev pub HaveFlow : List Host → PacketBox → Option Flow → Type 0
HaveFlow hosts b flow = (p : Packet) → IsIn b p → flow_of hosts p ≡ flow
