-- The results of searches: the least packet of a box that satisfies a property, and a packet that comes before the packet found so far.
use Rattle.std.specs.Prelude.{◌≡◌, ◌⊎◌, Option, Some, None}
use Rattle.host_net.specs.declared.packet.Packet.{Packet}
use Rattle.header_space.specs.declared.packet_box.PacketBox.{PacketBox}
use Rattle.header_space.specs.Boxes.{IsIn}
use Rattle.header_space.specs.Order.{ComesBefore}

-- Packet p is the least packet of the box that satisfies `Holds`: it satisfies it, and no earlier packet of the box does.
pub record IsLeast (Holds : Packet → Type 0) (b : PacketBox) (p : Packet) : Type 0 where
  pub inside : IsIn b p
  pub holds : Holds p
  pub first : (q : Packet) → IsIn b q → ComesBefore q p → Holds q → ⊥

-- The result is the least packet of the box that satisfies `Holds`, or None if no packet of the box satisfies it.
abbrev pub IsLeastWhere : (Packet → Type 0) → PacketBox → Option Packet → Type 0
IsLeastWhere Holds b None = (q : Packet) → IsIn b q → Holds q → ⊥
IsLeastWhere Holds b (Some p) = IsLeast Holds b p

-- Packet p comes before the packet found, or no packet is found.
abbrev pub IsEarlier : Packet → Option Packet → Type 0
IsEarlier p None = Unit {0}
IsEarlier p (Some q) = ComesBefore p q

-- The search finds a packet that satisfies `Holds` and comes before the packet found so far.
pub record Finds (Holds : Packet → Type 0) (old new : Option Packet) : Type 0 where
  pub packet : Packet
  pub is : new ≡ Some packet
  pub holds : Holds packet
  pub earlier : IsEarlier packet old

-- `new` is the result of a search from `old`: no packet that satisfies `Holds` comes before it.
pub record Improves (Holds : Packet → Type 0) (old new : Option Packet) : Type 0 where
  pub found : (new ≡ old) ⊎ Finds Holds old new
  pub none : (p : Packet) → Holds p → IsEarlier p new → ⊥

-- Packet p is in box b and satisfies `Holds`.
abbrev pub HoldsIn : (Packet → Type 0) → PacketBox → Packet → Type 0
HoldsIn Holds b p = IsIn b p × Holds p
