-- Lemmas on narrowed boxes.
use Rattle.std.proofs.Common.{refl, ◌∙◌, subst, arith}
use Rattle.host_net.specs.declared.packet.Packet.{Packet}
use Rattle.host_net.specs.Packet.{swap_of}
use Rattle.header_space.specs.declared.packet_box.PacketBox.{PacketBox}
use Rattle.header_space.specs.Boxes.{IsBox, IsIn, IsNoHigher, Narrows, swapped}

pub self_low : (p : Packet) → IsNoHigher p p
self_low p = record { src = omega arith; dst = omega arith; proto = omega arith; sport = omega arith; dport = omega arith }

pub low_trans : (p q r : Packet) → IsNoHigher p q → IsNoHigher q r → IsNoHigher p r
low_trans p q r one two = record {
  src = omega (arith, one.src, two.src);
  dst = omega (arith, one.dst, two.dst);
  proto = omega (arith, one.proto, two.proto);
  sport = omega (arith, one.sport, two.sport);
  dport = omega (arith, one.dport, two.dport);
}

-- The least packet of a box is in each part that the box narrows to.
pub least_in : (b part : PacketBox) → Narrows b part → IsIn part b.least
least_in b part narrows = subst (λ (p : Packet). IsIn part p) narrows.least (record { above = self_low part.least; below = narrows.is_box })

pub narrows_not : (b : PacketBox) → IsBox b → Narrows b b
narrows_not b is = record { least = refl; is_box = is; below = self_low b.greatest }

pub narrows_then : (a b c : PacketBox) → Narrows a b → Narrows b c → Narrows a c
narrows_then a b c one two = record {
  least = two.least ∙ one.least;
  is_box = two.is_box;
  below = low_trans c.greatest b.greatest a.greatest two.below one.below;
}

-- The packets of a narrowed box are packets of the box.
pub narrows_in : (a b : PacketBox) (p : Packet) → Narrows a b → IsIn b p → IsIn a p
narrows_in a b p narrows inside = record {
  above = subst (λ (q : Packet). IsNoHigher q p) narrows.least inside.above;
  below = low_trans p b.greatest a.greatest inside.below narrows.below;
}

pub own_least : (b : PacketBox) → IsBox b → IsIn b b.least
own_least b is = record { above = self_low b.least; below = is }

-- ---- Boxes of reply packets

pub low_swapped : (p q : Packet) → IsNoHigher p q → IsNoHigher (swap_of p) (swap_of q)
low_swapped p q low = record { src = low.dst; dst = low.src; proto = low.proto; sport = low.dport; dport = low.sport }

pub in_swapped : (b : PacketBox) (p : Packet) → IsIn b p → IsIn (swapped b) (swap_of p)
in_swapped b p inside = record { above = low_swapped b.least p inside.above; below = low_swapped p b.greatest inside.below }
