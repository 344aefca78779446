-- The first packets of connections, defined over the events only, and a connection table that tracks exactly these.
use Rattle.std.specs.Prelude.{◌↔◌, ℕ, Bool, IsTrue, List, take, is_some}
use Rattle.host_net.specs.declared.packet.Packet.{Packet}
use Rattle.host_net.specs.Packet.{swap_of}
use Rattle.pkt_core.specs.declared.event.Event.{Event}
use Rattle.pkt_core.specs.Events.{SeenAt, UnforgottenSince, WasSeen}
use Rattle.pkt_core.specs.Tracking.{ConnectionTable}

-- The packet q at index `place` is the first packet of a connection that has not been forgotten since: it is permitted, and if q or a
-- permitted answer to q was seen before, its connection was forgotten before index `place`.
pub record IsFirstPacket (permitted : Packet → Bool) (past : List Event) (place : ℕ) (q : Packet) : Type 0 where
  pub seen : SeenAt past place q
  pub unforgotten : UnforgottenSince past place q
  pub allowed : IsTrue (permitted q)
  pub begins : WasSeen (take place past) q → ⊥
  pub answers_none : IsTrue (permitted (swap_of q)) → WasSeen (take place past) (swap_of q) → ⊥

-- The connection table tracks exactly the first packets.
abbrev pub TracksFirstPackets : (Packet → Bool) → List Event → ConnectionTable → Type 0
TracksFirstPackets permitted past kept = (q : Packet) → IsTrue (is_some (kept q)) ↔ ((place : ℕ) × IsFirstPacket permitted past place q)
