-- Pending boxes, their numbers of packets, and the results of splits. Not visible to callers, which use `Searching`.
use Rattle.std.specs.Prelude.{◌≡◌, ◌⊎◌, ◌↔◌, ℕ, ◌+◌, ◌-◌, ◌*◌, ◌<◌, Bool, IsTrue, List, [], ◌∷◌, Option}
use Rattle.std.specs.List.{sum_by}
use Rattle.host_net.specs.declared.packet.Packet.{Packet}
use Rattle.header_space.specs.declared.packet_box.PacketBox.{PacketBox}
use Rattle.header_space.specs.Boxes.{IsBox, IsIn, IsNoHigher}
use Rattle.header_space.specs.Searching.{Finds, HoldsIn, IsEarlier}

-- The number of integers from `first` to `last`.
abbrev pub width : ℕ → ℕ → ℕ
width first last = last + 1 - first

-- The number of packets of the box from p to q.
abbrev pub volume_of : Packet → Packet → ℕ
volume_of p q =
    width p.src q.src * (width p.dst q.dst * (width p.proto q.proto * (width p.sport q.sport * width p.dport q.dport)))

unfoldable pub volume : PacketBox → ℕ
volume b = volume_of b.least b.greatest

abbrev pub volumes : List PacketBox → ℕ
volumes bs = sum_by volume bs

-- Packet p is in one of the boxes.
abbrev pub IsAmong : List PacketBox → Packet → Type 0
IsAmong [] p = ⊥
IsAmong (b ∷ bs) p = IsIn b p ⊎ IsAmong bs p

-- Box b is non-empty, and all of its packets are in box `whole`.
pub record IsWithin (whole b : PacketBox) : Type 0 where
  pub above : IsNoHigher whole.least b.least
  pub is_box : IsBox b
  pub below : IsNoHigher b.greatest whole.greatest

abbrev pub AreWithin : PacketBox → List PacketBox → Type 0
AreWithin whole [] = Unit {0}
AreWithin whole (b ∷ bs) = IsWithin whole b × AreWithin whole bs

-- A split divides box b into a part and further boxes, and adds the further boxes to the pending ones.
pub record Splits (b : PacketBox) (old new : List PacketBox) (part : PacketBox) : Type 0 where
  pub volumes : volumes new + volume part ≡ volumes old + volume b
  pub packets : (p : Packet) → IsIn b p → IsIn part p ⊎ IsAmong new p
  pub kept : (p : Packet) → IsAmong old p → IsAmong new p
  pub within : (whole : PacketBox) → AreWithin whole old → IsWithin whole b → AreWithin whole new × IsWithin whole part

-- A test of box b answers for its least packet. Each packet of b with another answer is in a pending box.
pub record Tries (Holds : Packet → Type 0) (b : PacketBox) (old new : List PacketBox) (answer : Bool) : Type 0 where
  pub least : IsTrue answer ↔ Holds b.least
  pub fewer : volumes new < volumes old + volume b
  pub packets : (p : Packet) → IsIn b p → (IsTrue answer ↔ Holds p) ⊎ IsAmong new p
  pub kept : (p : Packet) → IsAmong old p → IsAmong new p
  pub within : (whole : PacketBox) → AreWithin whole old → IsWithin whole b → AreWithin whole new

-- The invariant of a search from `old`: each packet that satisfies `Holds` and comes before the packet found is in a pending box.
pub record Seeks (Holds : Packet → Type 0) (whole : PacketBox) (old : Option Packet) (bs : List PacketBox) (found : Option Packet) : Type 0 where
  pub are : AreWithin whole bs
  pub is : (found ≡ old) ⊎ Finds (HoldsIn Holds whole) old found
  pub left : (p : Packet) → IsIn whole p → Holds p → IsEarlier p found → IsAmong bs p
