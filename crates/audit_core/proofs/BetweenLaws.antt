-- The search for the first packet between ranges, in order of the ranges.
use Rattle.std.proofs.Common.{◌≡◌, ◌↔◌, inl, inr, List, [], ◌∷◌, ◌++◌, Option, sym, subst}
use Rattle.host_net.specs.declared.packet.Packet.{Packet}
use Rattle.host_net.specs.Packet.{IsPacket}
use Rattle.header_space.specs.declared.address_range.AddressRange.{AddressRange}
use Rattle.header_space.specs.declared.packet_box.PacketBox.{PacketBox}
use Rattle.header_space.specs.Boxes.{IsIn}
use Rattle.header_space.specs.Owners.{LiesIn}
use Rattle.header_space.specs.Searching.{HoldsIn, Improves}
use Rattle.header_space.proofs.CutLaws.{improves_then}
use Rattle.header_space.proofs.OwnersLaws.{covered_cases, covered_left, covered_only, covered_right}
use Rattle.audit_core.specs.inner.Pairs.{HoldsBetween}

-- The search of a box between one more range of destinations, for an equivalent property.
pub destinations_more : (Holds Here : Packet → Type 0) (from range : AddressRange) (to all : List AddressRange) (b : PacketBox) (old mid new : Option Packet)
    → ((p : Packet) → IsPacket p → LiesIn from p.src → LiesIn range p.dst → IsIn b p)
    → ((p : Packet) → IsIn b p → IsPacket p × LiesIn from p.src × LiesIn range p.dst) → ((p : Packet) → Here p ↔ Holds p) → all ≡ to ++ range ∷ []
    → Improves (HoldsBetween Holds (from ∷ []) to) old mid → Improves (HoldsIn Here b) mid new → Improves (HoldsBetween Holds (from ∷ []) all) old new
destinations_more Holds Here from range to all b old mid new inside packets same is one two =
    subst (λ (l : List AddressRange). Improves (HoldsBetween Holds (from ∷ []) l) old new) (sym is)
    (improves_then (HoldsBetween Holds (from ∷ []) to) (HoldsIn Here b) (HoldsBetween Holds (from ∷ []) (to ++ range ∷ [])) old mid new
    (λ p holds. elim (covered_cases to (range ∷ []) p.dst holds.0.dst) [
      | inl left ↦ inl (record { packet = holds.0.packet; src = holds.0.src; dst = left }, holds.1)
      | inr right ↦ inr (inside p holds.0.packet (covered_only from p.src holds.0.src) (covered_only range p.dst right), (same p).1 holds.1)
    ])
    (λ p holds. (record { packet = holds.0.packet; src = holds.0.src; dst = covered_left to (range ∷ []) p.dst holds.0.dst }, holds.1))
    (λ p holds. let are = packets p holds.0 in
    (record { packet = are.0; src = inl are.1; dst = covered_right to (range ∷ []) p.dst (inl are.2) }, (same p).0 holds.1))
    one two)

-- One more range of sources, with a property that is equivalent on the packets from this range.
pub sources_more_found : (Holds Here : Packet → Type 0) (from to : List AddressRange) (range : AddressRange) (all : List AddressRange) (old mid new : Option Packet)
    → ((p : Packet) → IsPacket p → LiesIn range p.src → (Here p ↔ Holds p)) → all ≡ from ++ range ∷ []
    → Improves (HoldsBetween Holds from to) old mid → Improves (HoldsBetween Here (range ∷ []) to) mid new → Improves (HoldsBetween Holds all to) old new
sources_more_found Holds Here from to range all old mid new same is one two =
    subst (λ (l : List AddressRange). Improves (HoldsBetween Holds l to) old new) (sym is)
    (improves_then (HoldsBetween Holds from to) (HoldsBetween Here (range ∷ []) to) (HoldsBetween Holds (from ++ range ∷ []) to) old mid new
    (λ p holds. elim (covered_cases from (range ∷ []) p.src holds.0.src) [
      | inl left ↦ inl (record { packet = holds.0.packet; src = left; dst = holds.0.dst }, holds.1)
      | inr right ↦
          inr (record { packet = holds.0.packet; src = right; dst = holds.0.dst }, (same p holds.0.packet (covered_only range p.src right)).1 holds.1)
    ])
    (λ p holds. (record { packet = holds.0.packet; src = covered_left from (range ∷ []) p.src holds.0.src; dst = holds.0.dst }, holds.1))
    (λ p holds. (
      record { packet = holds.0.packet; src = covered_right from (range ∷ []) p.src holds.0.src; dst = holds.0.dst },
      (same p holds.0.packet (covered_only range p.src holds.0.src)).0 holds.1,
    ))
    one two)
