-- Verdicts of filters: a filter that has one verdict for every packet in each state, and rules that have the same verdicts.
use Rattle.std.specs.Prelude.{◌≡◌, ◌↔◌, Bool}
use Rattle.host_net.specs.declared.packet.Packet.{Packet}
use Rattle.host_net.specs.declared.packet.CtState.{CtState}
use Rattle.host_net.specs.Packet.{IsPacket}
use Rattle.header_space.specs.declared.packet_box.PacketBox.{PacketBox}
use Rattle.header_space.specs.Boxes.{IsIn}
use Rattle.pkt_core.specs.Firewall.{Filter}
use Rattle.rules_space.specs.Rules.{AnyRules, filter_of}

-- In each state a packet passes or does not, and not both.
abbrev pub GivesOne : Filter → Type 0
GivesOne filter =
    (state : CtState) (p : Packet) → IsPacket p → (passes : Bool) × filter state p passes × ((other : Bool) → filter state p other → other ≡ passes)

-- In each state, both rule sets forward the same packets of the box.
abbrev pub HaveSameVerdicts : PacketBox → AnyRules → AnyRules → Type 0
HaveSameVerdicts b rules others =
    (p : Packet) → IsIn b p → (state : CtState) (passes : Bool) → (filter_of rules state p passes ↔ filter_of others state p passes)
