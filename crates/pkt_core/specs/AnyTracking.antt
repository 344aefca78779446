-- Forwarding by a firewall with any connection tracking. A kernel assigns the state ESTABLISHED to fewer packets than Tracking: connections
-- expire, the table is full, a TCP packet is invalid. Here anything may choose the state of a packet, anew for each packet.
use Rattle.std.specs.Prelude.{◌↔◌, ◌⊎◌, Bool, true, IsTrue, List}
use Rattle.host_net.specs.declared.packet.Packet.{Packet}
use Rattle.host_net.specs.declared.packet.CtState.{CtState}
use Rattle.host_net.specs.Packet.{IsPacket, swap_of}
use Rattle.pkt_core.specs.declared.event.Event.{Event}
use Rattle.pkt_core.specs.Events.{WasSeen}
use Rattle.pkt_core.specs.Expected.{Expected}
use Rattle.pkt_core.specs.Firewall.{Filter, is_established}
use Rattle.pkt_core.specs.FlowPolicy.{FlowPolicy, permits, permits_reply_to}

-- The state is sound for packet p after `past`: it is ESTABLISHED only if a packet in the reverse direction was seen, forwarded or not, and
-- its connection has not been forgotten since. This is the meaning of the state in iptables-extensions(8): the connection has seen packets
-- in both directions.
abbrev pub IsSound : List Event → Packet → CtState → Type 0
IsSound past p state = IsTrue (is_established state) → WasSeen past (swap_of p)

-- After every list of events, whatever was forwarded of them, a packet in a sound state passes only if it is expected to pass. A packet
-- passes in every state if and only if it is permitted.
pub record ForwardsInAnyState (filter : Filter) (policy : FlowPolicy) : Type 0 where
  pub only_expected : (past : List Event) (packet : Packet) (state : CtState) → IsPacket packet → IsSound past packet state → filter state packet true
      → Expected (permits policy) (permits_reply_to policy) past packet
  pub all_permitted : (packet : Packet) → IsPacket packet → ((state : CtState) → filter state packet true) ↔ IsTrue (permits policy packet)

-- The state is sound, and ESTABLISHED only if the packet or its reverse is permitted: a kernel tracks no connection of which no packet was
-- forwarded.
abbrev pub IsSoundFor : (permitted : Packet → Bool) → List Event → Packet → CtState → Type 0
IsSoundFor permitted past p state = IsTrue (is_established state) → WasSeen past (swap_of p) × (IsTrue (permitted p) ⊎ IsTrue (permitted (swap_of p)))
