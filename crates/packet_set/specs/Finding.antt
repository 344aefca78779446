-- The search for a packet of a set in a box: its result, and the services for which the result of a search among some services holds.
use Rattle.std.specs.Prelude.{◌≡◌, ℕ, ◌≤◌, true, false, List, Option, Some, None}
use Rattle.host_net.specs.declared.packet.Packet.{Packet}
use Rattle.header_space.specs.declared.packet_box.PacketBox.{PacketBox}
use Rattle.header_space.specs.Boxes.{IsIn}
use Rattle.packet_set.specs.declared.find.Found.{Found}
use Rattle.packet_set.specs.declared.node.Node.{Node}
use Rattle.packet_set.specs.Nodes.{has}

-- Packet p is in the box, and its service is at most the last service found, in both the protocol and the destination port.
pub record IsUpTo (b : PacketBox) (f : Found) (p : Packet) : Type 0 where
  pub inside : IsIn b p
  pub proto : p.proto ≤ f.proto
  pub dport : p.dport ≤ f.dport

-- Packets p and q differ at most in their protocols and destination ports.
pub record AreFellows (p q : Packet) : Type 0 where
  pub src : q.src ≡ p.src
  pub dst : q.dst ≡ p.dst
  pub sport : q.sport ≡ p.sport

-- Packet q of the box has the least service of the box, and its fellows in the box, with services up to the last service found, are in the
-- set.
pub record IsOne (nodes : List Node) (set : ℕ) (b : PacketBox) (f : Found) (q : Packet) : Type 0 where
  pub inside : IsIn b q
  pub proto : q.proto ≡ b.least.proto
  pub dport : q.dport ≡ b.least.dport
  pub fellows : (p : Packet) → IsUpTo b f p → AreFellows q p → has nodes set p ≡ true

-- If the search finds a packet, the packet has this property. Otherwise no packet of the box with a service up to the last service found is
-- in the set.
abbrev pub IsOneOrNone : List Node → ℕ → PacketBox → Found → Option Packet → Type 0
IsOneOrNone nodes set b f None = (p : Packet) → IsUpTo b f p → has nodes set p ≡ false
IsOneOrNone nodes set b f (Some q) = IsOne nodes set b f q

-- The search in a box for a packet of the set has this result. Its last service is a service of the box.
pub record IsFound (nodes : List Node) (set : ℕ) (b : PacketBox) (f : Found) : Type 0 where
  pub proto : b.least.proto ≤ f.proto
  pub dport : b.least.dport ≤ f.dport
  pub proto_most : f.proto ≤ b.greatest.proto
  pub dport_most : f.dport ≤ b.greatest.dport
  pub packet : IsOneOrNone nodes set b f f.packet

-- The packet is a packet of the box that is in the set. If there is no packet, no packet of the box is in the set.
abbrev pub IsMember : List Node → ℕ → PacketBox → Option Packet → Type 0
IsMember nodes set b None = (p : Packet) → IsIn b p → has nodes set p ≡ false
IsMember nodes set b (Some q) = IsIn b q × (has nodes set q ≡ true)
