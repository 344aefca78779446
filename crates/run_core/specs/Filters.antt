-- Filters with the same verdicts on packets.
use Rattle.std.specs.Prelude.{◌↔◌, Bool}
use Rattle.host_net.specs.declared.packet.Packet.{Packet}
use Rattle.host_net.specs.declared.packet.CtState.{CtState}
use Rattle.host_net.specs.Packet.{IsPacket}
use Rattle.pkt_core.specs.Firewall.{Filter}

-- In each state, a packet passes the one filter, or does not, if and only if it passes the other, or does not.
abbrev pub AreEquivalentFilters : Filter → Filter → Type 0
AreEquivalentFilters filter other =
    (state : CtState) (packet : Packet) (passes : Bool) → IsPacket packet → filter state packet passes ↔ other state packet passes
