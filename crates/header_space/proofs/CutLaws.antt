-- Lemmas on cuts, and on consecutive searches of boxes.
use Rattle.std.proofs.Common.{◌⊎◌, inl, inr, Option, Some, None, refl, sym, subst, ◌∙◌, arith}
use Rattle.std.proofs.lemmas.Option.{same_Some}
use Rattle.host_net.specs.declared.packet.Packet.{Packet}
use Rattle.header_space.specs.declared.packet_box.PacketBox.{PacketBox}
use Rattle.header_space.specs.declared.cut.Cut.{Cut}
use Rattle.header_space.specs.declared.cut.Cut.TheVariants.{Src, Dst}
use Rattle.header_space.specs.declared.field.Field.TheVariants.{Src as FieldSrc, Dst as FieldDst}
use Rattle.header_space.specs.Boxes.{IsIn}
use Rattle.header_space.specs.Cuts.{IsCutOf}
use Rattle.header_space.specs.Searching.{HoldsIn, Improves, IsEarlier, IsLeastWhere}
use Rattle.header_space.specs.inner.Cutting.{AreSameIn, lower, upper}
use Rattle.header_space.proofs.FieldLaws.{after_in, in_parts, up_to_in}
use Rattle.header_space.proofs.SeekLaws.{earlier_low, earlier_old}

-- ---- The two parts

pub cut_in : (b : PacketBox) (cut : Cut) (p : Packet) → IsIn b p → IsIn (lower b cut) p ⊎ IsIn (upper b cut) p
cut_in b (Src n) p inside = in_parts FieldSrc b n p inside
cut_in b (Dst n) p inside = in_parts FieldDst b n p inside

pub lower_in : (b : PacketBox) (cut : Cut) (p : Packet) → IsCutOf b cut → IsIn (lower b cut) p → IsIn b p
lower_in b (Src n) p is inside = let high = is.1 in up_to_in FieldSrc b n p (omega (arith, high)) inside
lower_in b (Dst n) p is inside = let high = is.1 in up_to_in FieldDst b n p (omega (arith, high)) inside

pub upper_in : (b : PacketBox) (cut : Cut) (p : Packet) → IsCutOf b cut → IsIn (upper b cut) p → IsIn b p
upper_in b (Src n) p is inside = after_in FieldSrc b n p is.0 inside
upper_in b (Dst n) p is inside = after_in FieldDst b n p is.0 inside

-- ---- The packet found

pub found_one : (Holds : Packet → Type 0) (p : Packet) → Improves Holds None (Some p) → Holds p
found_one Holds p is = elim is.found [
  | inl none ↦ cc
  | inr finds ↦ subst Holds (sym (same_Some p finds.packet finds.is)) finds.holds
]

-- Two searches in a row are a search for the packets of either search.
pub improves_then : (A B C : Packet → Type 0) (old mid new : Option Packet) → ((p : Packet) → C p → A p ⊎ B p) → ((p : Packet) → A p → C p)
    → ((p : Packet) → B p → C p) → Improves A old mid → Improves B mid new → Improves C old new
improves_then A B C old mid new cases left right one two = record {
  found = elim two.found [
    | inl kept ↦ elim one.found [
      | inl also ↦ inl (kept ∙ also)
      | inr finds ↦ inr (record { packet = finds.packet; is = kept ∙ finds.is; holds = left finds.packet finds.holds; earlier = finds.earlier })
    ]
    | inr finds ↦ inr (record {
      packet = finds.packet;
      is = finds.is;
      holds = right finds.packet finds.holds;
      earlier = earlier_old A old mid finds.packet one.found finds.earlier;
    })
  ];
  none = λ p holds early. elim (cases p holds) [
    | inl first ↦ one.none p first (earlier_old B mid new p two.found early)
    | inr second ↦ two.none p second early
  ];
}

-- A search for packets that do not exist finds nothing.
pub improves_nowhere : (Holds : Packet → Type 0) (found : Option Packet) → ((p : Packet) → Holds p → ⊥) → Improves Holds found found
improves_nowhere Holds found none = record { found = inl refl; none = λ p holds early. none p holds }

module _ (Holds : Packet → Type 0) (b : PacketBox) where
  -- A search skips a box whose least packet does not come before the packet found.
  pub improves_passed : (found : Option Packet) → (IsEarlier b.least found → ⊥) → Improves (HoldsIn Holds b) found found
  improves_passed found late = record {
    found = inl refl;
    none = λ p holds early. late (earlier_low found b.least p holds.0.above early);
  }

  pub improves_same : (Other : Packet → Type 0) (old new : Option Packet) → AreSameIn b Other Holds → Improves (HoldsIn Other b) old new
      → Improves (HoldsIn Holds b) old new
  improves_same Other old new same is =
      improves_then (λ p. ⊥) (HoldsIn Other b) (HoldsIn Holds b) old old new (λ p holds. inr (holds.0, (same p holds.0).1 holds.1)) (λ p none. absurd none)
      (λ p holds. (holds.0, (same p holds.0).0 holds.1)) (improves_nowhere (λ p. ⊥) old (λ p none. none)) is

  -- The searches of the two parts of a box, in order, are together a search of the box.
  pub improves_parts : (cut : Cut) (old mid new : Option Packet) → IsCutOf b cut → Improves (HoldsIn Holds (lower b cut)) old mid
      → Improves (HoldsIn Holds (upper b cut)) mid new → Improves (HoldsIn Holds b) old new
  improves_parts cut old mid new is =
      improves_then (HoldsIn Holds (lower b cut)) (HoldsIn Holds (upper b cut)) (HoldsIn Holds b) old mid new
      (λ p holds. elim (cut_in b cut p holds.0) [ inl low ↦ inl (low, holds.1) | inr high ↦ inr (high, holds.1) ])
      (λ p holds. (lower_in b cut p is holds.0, holds.1)) (λ p holds. (upper_in b cut p is holds.0, holds.1))

  pub improves_done : (new : Option Packet) → Improves (HoldsIn Holds b) None new → IsLeastWhere Holds b new
  improves_done None is = λ p inside holds. is.none p (inside, holds) tt
  improves_done (Some p) is =
      let own = found_one (HoldsIn Holds b) p is in
      record { inside = own.0; holds = own.1; first = λ q inside before holds. is.none q (inside, holds) before }
