-- Lemmas on splits of boxes.
use Rattle.std.proofs.Common.{◌≡◌, ◌⊎◌, inl, inr, ℕ, ◌+◌, ◌*◌, ◌<◌, ◌≤◌, List, [], ◌∷◌, ◌++◌, sym, ap, ◌∙◌, arith}
use Rattle.std.proofs.Math.Nat.{add-mul, mul-add}
use Rattle.std.proofs.lemmas.Bool.Decides.{leb_tells}
use Rattle.std.proofs.lemmas.List.Sums.{sum_by-append}
use Rattle.host_net.specs.declared.packet.Packet.{Packet}
use Rattle.header_space.specs.declared.packet_box.PacketBox.{PacketBox}
use Rattle.header_space.specs.Boxes.{IsBox, IsIn}
use Rattle.header_space.specs.declared.field.Field.{Field}
use Rattle.header_space.specs.declared.field.Field.TheVariants.{Src, Dst, Proto, Sport, Dport}
use Rattle.header_space.specs.inner.Fields.{after, number_of, up_to}
use Rattle.header_space.specs.inner.Splitting.{AreWithin, IsAmong, IsWithin, Splits, volume, volumes, width}
use Rattle.header_space.proofs.BoxLaws.{low_trans}
use Rattle.header_space.proofs.FieldLaws.{after_box, after_high, in_parts, up_to_box, up_to_low}

pub le_or_lt : (a b : ℕ) → (a ≤ b) ⊎ (b < a)
le_or_lt a b = elim (leb_tells a b) [ inl h ↦ inl h.1 | inr h ↦ inr h.1 ]

-- ---- Adding boxes to the pending boxes

pub among_old : (bs cs : List PacketBox) (p : Packet) → IsAmong bs p → IsAmong (bs ++ cs) p
among_old [] cs p there = absurd there
among_old (b ∷ bs) cs p there = elim there [ inl here ↦ inl here | inr later ↦ inr (among_old bs cs p later) ]

pub among_new : (bs cs : List PacketBox) (p : Packet) → IsAmong cs p → IsAmong (bs ++ cs) p
among_new [] cs p there = there
among_new (b ∷ bs) cs p there = inr (among_new bs cs p there)

-- A packet in a list of boxes with b appended is in the list or in b.
pub among_cases : (bs : List PacketBox) (b : PacketBox) (p : Packet) → IsAmong (bs ++ b ∷ []) p → IsAmong bs p ⊎ IsIn b p
among_cases [] b p there = elim there [ inl here ↦ inr here | inr none ↦ absurd none ]
among_cases (c ∷ bs) b p there = elim there [
  | inl here ↦ inl (inl here)
  | inr later ↦ elim (among_cases bs b p later) [ inl old ↦ inl (inr old) | inr new ↦ inr new ]
]

pub within_pushed : (whole : PacketBox) (bs : List PacketBox) (b : PacketBox) → AreWithin whole bs → IsWithin whole b → AreWithin whole (bs ++ b ∷ [])
within_pushed whole [] b are own = (own, tt)
within_pushed whole (c ∷ bs) b are own = (are.0, within_pushed whole bs b are.1 own)

pub within_front : (whole : PacketBox) (bs : List PacketBox) (b : PacketBox) → AreWithin whole (bs ++ b ∷ []) → AreWithin whole bs × IsWithin whole b
within_front whole [] b are = (tt, are.0)
within_front whole (c ∷ bs) b are = let rest = within_front whole bs b are.1 in ((are.0, rest.0), rest.1)

pub volumes_pushed : (bs : List PacketBox) (b : PacketBox) → volumes (bs ++ b ∷ []) ≡ volumes bs + volume b
volumes_pushed bs b =
    let both = sum_by-append volume bs (b ∷ []) in
    omega (arith, both)

-- ---- A box cut in two, and a box without a cut

splits_by : (b part above : PacketBox) (old : List PacketBox) → volume part + volume above ≡ volume b
    → ((p : Packet) → IsIn b p → IsIn part p ⊎ IsIn above p)
    → ((whole : PacketBox) → IsWithin whole b → IsWithin whole part × IsWithin whole above)
    → Splits b old (old ++ above ∷ []) part
splits_by b part above old sums packets within = record {
  volumes = let more = volumes_pushed old above in omega (arith, more, sums);
  packets = λ p inside. elim (packets p inside) [ inl low ↦ inl low | inr high ↦ inr (among_new old (above ∷ []) p (inl high)) ];
  kept = λ p there. among_old old (above ∷ []) p there;
  within = λ whole are own. let both = within whole own in (within_pushed whole old above are both.1, both.0);
}

-- Two consecutive splits compose to one.
pub splits_then : (b left part : PacketBox) (old mid new : List PacketBox) → Splits b old mid left → Splits left mid new part → Splits b old new part
splits_then b left part old mid new one two = record {
  volumes = omega (arith, one.volumes, two.volumes);
  packets = λ p inside. elim (one.packets p inside) [
    | inl low ↦ two.packets p low
    | inr there ↦ inr (two.kept p there)
  ];
  kept = λ p there. two.kept p (one.kept p there);
  within = λ whole are own. let first = one.within whole are own in two.within whole first.0 first.1;
}

-- ---- A split at a number in a field

width_split : (first last end : ℕ) → first ≤ last → last < end → width first last + width (last + 1) end ≡ width first end
width_split first last end low high = omega (arith, low, high)

-- Products with a sum as a factor.
sum_left : (u v w r : ℕ) → u + v ≡ w → u * r + v * r ≡ w * r
sum_left u v w r is = sym (add-mul u v r) ∙ ap (λ (n : ℕ). n * r) is

sum_right : (a u v w : ℕ) → u + v ≡ w → a * u + a * v ≡ a * w
sum_right a u v w is = sym (mul-add a u v) ∙ ap (λ (n : ℕ). a * n) is

abbrev breadth : Field → PacketBox → ℕ
breadth f b = width (number_of f b.least) (number_of f b.greatest)

volume_split : (f : Field) (b : PacketBox) (n : ℕ) → number_of f b.least ≤ n → n < number_of f b.greatest → volume (up_to f b n) + volume (after f b n) ≡ volume b
unfolding volume
volume_split Src b n low high =
    sum_left (width b.least.src n) (width (n + 1) b.greatest.src) (breadth Src b) _ (width_split b.least.src n b.greatest.src low high)
volume_split Dst b n low high =
    sum_right (breadth Src b) _ _ _
    (sum_left (width b.least.dst n) (width (n + 1) b.greatest.dst) (breadth Dst b) _ (width_split b.least.dst n b.greatest.dst low high))
volume_split Proto b n low high =
    sum_right (breadth Src b) _ _ _ (sum_right (breadth Dst b) _ _ _
    (sum_left (width b.least.proto n) (width (n + 1) b.greatest.proto) (breadth Proto b) _ (width_split b.least.proto n b.greatest.proto low high)))
volume_split Sport b n low high =
    sum_right (breadth Src b) _ _ _ (sum_right (breadth Dst b) _ _ _ (sum_right (breadth Proto b) _ _ _
    (sum_left (width b.least.sport n) (width (n + 1) b.greatest.sport) (breadth Sport b) _ (width_split b.least.sport n b.greatest.sport low high))))
volume_split Dport b n low high =
    sum_right (breadth Src b) _ _ _ (sum_right (breadth Dst b) _ _ _ (sum_right (breadth Proto b) _ _ _ (sum_right (breadth Sport b) _ _ _
    (width_split b.least.dport n b.greatest.dport low high))))

pub splits_at : (f : Field) (b : PacketBox) (old : List PacketBox) (n : ℕ) → IsBox b → number_of f b.least ≤ n → n < number_of f b.greatest
    → Splits b old (old ++ after f b n ∷ []) (up_to f b n)
splits_at f b old n is low high = splits_by b (up_to f b n) (after f b n) old (volume_split f b n low high) (in_parts f b n)
    (λ whole own. (
      record {
        above = own.above;
        is_box = up_to_box f b n is low;
        below = low_trans (up_to f b n).greatest b.greatest whole.greatest (up_to_low f b n (omega (arith, high))) own.below;
      },
      record {
        above = low_trans whole.least b.least (after f b n).least own.above (after_high f b n low);
        is_box = after_box f b n is high;
        below = own.below;
      },
    ))
