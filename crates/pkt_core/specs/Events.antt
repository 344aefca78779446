-- Lists of events, and facts about a packet in a list of events.
use Rattle.std.specs.Prelude.{◌≡◌, ◌≢◌, ℕ, ◌<◌, List, slice_get, Some}
use Rattle.host_net.specs.declared.packet.Packet.{Packet}
use Rattle.host_net.specs.Packet.{swap_of}
use Rattle.pkt_core.specs.declared.event.Event.{Event}
use Rattle.pkt_core.specs.declared.event.Event.TheVariants.{Seen, Forget}

-- The event at index k, from 0, is that packet p is seen.
abbrev pub SeenAt : List Event → ℕ → Packet → Type 0
SeenAt events k p = slice_get events k ≡ Some (Seen p)

-- The event at index k, from 0, is that the connection of packet p is forgotten.
abbrev pub ForgottenAt : List Event → ℕ → Packet → Type 0
ForgottenAt events k p = slice_get events k ≡ Some (Forget p)

-- No event after index k forgets the connection of q, in either direction.
abbrev pub UnforgottenSince : List Event → ℕ → Packet → Type 0
UnforgottenSince events k q = (j : ℕ) (r : Packet) → k < j → ForgottenAt events j r → (r ≢ q) × (r ≢ swap_of q)

-- Packet q was seen, and its connection has not been forgotten since.
pub record WasSeen (past : List Event) (q : Packet) : Type 0 where
  pub place : ℕ
  pub seen : SeenAt past place q
  pub unforgotten : UnforgottenSince past place q
