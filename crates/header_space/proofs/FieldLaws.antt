-- Boxes that end at a number in a field or start after it.
use Rattle.std.proofs.Common.{◌⊎◌, inl, inr, ℕ, ◌+◌, ◌<◌, ◌≤◌, arith}
use Rattle.std.proofs.lemmas.Bool.{cases_lt}
use Rattle.host_net.specs.declared.packet.Packet.{Packet}
use Rattle.header_space.specs.declared.packet_box.PacketBox.{PacketBox}
use Rattle.header_space.specs.declared.field.Field.{Field}
use Rattle.header_space.specs.declared.field.Field.TheVariants.{Src, Dst, Proto, Sport, Dport}
use Rattle.header_space.specs.Boxes.{IsBox, IsIn, IsNoHigher}
use Rattle.header_space.specs.inner.Fields.{after, number_of, up_to, with_number}
use Rattle.header_space.proofs.BoxLaws.{low_trans, self_low}

-- ---- One field of two packets, where one packet is no higher than the other

pub low_with : (f : Field) (p q : Packet) (n : ℕ) → IsNoHigher p q → n ≤ number_of f q → IsNoHigher (with_number f p n) q
low_with Src p q n low h = record { src = h; dst = low.dst; proto = low.proto; sport = low.sport; dport = low.dport }
low_with Dst p q n low h = record { src = low.src; dst = h; proto = low.proto; sport = low.sport; dport = low.dport }
low_with Proto p q n low h = record { src = low.src; dst = low.dst; proto = h; sport = low.sport; dport = low.dport }
low_with Sport p q n low h = record { src = low.src; dst = low.dst; proto = low.proto; sport = h; dport = low.dport }
low_with Dport p q n low h = record { src = low.src; dst = low.dst; proto = low.proto; sport = low.sport; dport = h }

pub with_low : (f : Field) (p q : Packet) (n : ℕ) → IsNoHigher p q → number_of f p ≤ n → IsNoHigher p (with_number f q n)
with_low Src p q n low h = record { src = h; dst = low.dst; proto = low.proto; sport = low.sport; dport = low.dport }
with_low Dst p q n low h = record { src = low.src; dst = h; proto = low.proto; sport = low.sport; dport = low.dport }
with_low Proto p q n low h = record { src = low.src; dst = low.dst; proto = h; sport = low.sport; dport = low.dport }
with_low Sport p q n low h = record { src = low.src; dst = low.dst; proto = low.proto; sport = h; dport = low.dport }
with_low Dport p q n low h = record { src = low.src; dst = low.dst; proto = low.proto; sport = low.sport; dport = h }

-- ---- The two parts of a box

module _ (f : Field) (b : PacketBox) (n : ℕ) where
  pub in_parts : (p : Packet) → IsIn b p → IsIn (up_to f b n) p ⊎ IsIn (after f b n) p
  in_parts p inside = elim (cases_lt n (number_of f p)) [
    | inl over ↦ inr (record { above = low_with f b.least p (n + 1) inside.above (omega (arith, over)); below = inside.below })
    | inr under ↦ inl (record { above = inside.above; below = with_low f p b.greatest n inside.below under })
  ]

  pub up_to_box : IsBox b → number_of f b.least ≤ n → IsBox (up_to f b n)
  up_to_box is low = with_low f b.least b.greatest n is low

  pub after_box : IsBox b → n < number_of f b.greatest → IsBox (after f b n)
  after_box is high = low_with f b.least b.greatest (n + 1) is (omega (arith, high))

  pub up_to_low : n ≤ number_of f b.greatest → IsNoHigher (with_number f b.greatest n) b.greatest
  up_to_low high = low_with f b.greatest b.greatest n (self_low b.greatest) high

  pub after_high : number_of f b.least ≤ n → IsNoHigher b.least (with_number f b.least (n + 1))
  after_high low = with_low f b.least b.least (n + 1) (self_low b.least) (omega (arith, low))

  pub up_to_in : (p : Packet) → n ≤ number_of f b.greatest → IsIn (up_to f b n) p → IsIn b p
  up_to_in p high inside =
      record { above = inside.above; below = low_trans p (with_number f b.greatest n) b.greatest inside.below (up_to_low high) }

  pub after_in : (p : Packet) → number_of f b.least ≤ n → IsIn (after f b n) p → IsIn b p
  after_in p low inside =
      record { above = low_trans b.least (with_number f b.least (n + 1)) p (after_high low) inside.above; below = inside.below }
