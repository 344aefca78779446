-- Answered connections, defined over the events only, and a connection table that marks exactly these.
use Rattle.std.specs.Prelude.{◌≡◌, ◌↔◌, ℕ, ◌<◌, Bool, true, List, Some}
use Rattle.host_net.specs.declared.packet.Packet.{Packet}
use Rattle.host_net.specs.Packet.{swap_of}
use Rattle.pkt_core.specs.declared.event.Event.{Event}
use Rattle.pkt_core.specs.Events.{SeenAt}
use Rattle.pkt_core.specs.Tracking.{ConnectionTable}
use Rattle.pkt_core.specs.Connections.{IsFirstPacket, TracksFirstPackets}

-- q is the first packet of a connection, and its reverse was seen after it.
abbrev pub WasAnswered : (Packet → Bool) → List Event → Packet → Type 0
WasAnswered permitted past q =
    (place : ℕ) × IsFirstPacket permitted past place q × ((later : ℕ) × (place < later) × SeenAt past later (swap_of q))

-- The connection table tracks exactly the first packets, and marks exactly those that were answered.
pub record TracksConnections (permitted : Packet → Bool) (past : List Event) (kept : ConnectionTable) : Type 0 where
  pub first : TracksFirstPackets permitted past kept
  pub answered : (q : Packet) → (kept q ≡ Some true) ↔ WasAnswered permitted past q
