-- Lemmas on the search: the answer for a tested box, and the packets that remain to be searched.
use Rattle.std.proofs.Common.{◌≡◌, ◌⊎◌, ◌↔◌, inl, inr, ℕ, ◌+◌, ◌<◌, ◌≤◌, Bool, true, false, IsTrue, List, [], ◌∷◌, ◌++◌, Option, Some, None, refl, ap, subst, ◌∙◌, arith}
use Rattle.std.specs.Prelude.{if◌then◌else◌}
use Rattle.std.proofs.Math.Nat.{eq-or-lt_of_le, mul-pos}
use Rattle.host_net.specs.declared.packet.Packet.{Packet}
use Rattle.header_space.specs.declared.packet_box.PacketBox.{PacketBox}
use Rattle.header_space.specs.Boxes.{IsBox, IsIn, IsNoHigher, Narrows}
use Rattle.header_space.specs.Order.{ComesBefore, comes_first}
use Rattle.header_space.specs.Searching.{Finds, HoldsIn, Improves, IsEarlier}
use Rattle.header_space.specs.inner.Splitting.{AreWithin, IsAmong, IsWithin, Seeks, Splits, Tries, volume, volumes, width}
use Rattle.header_space.proofs.BoxLaws.{least_in, low_trans, own_least, self_low}
use Rattle.header_space.proofs.SplitLaws.{among_cases, volumes_pushed, within_front}

-- ---- The order of packets

first_low : (a p q : ℕ) (A P : Type 0) → a ≤ p → (P → A) → comes_first p q P → comes_first a q A
first_low a p q A P low later h = elim h [
  | inl less ↦ inl (omega (arith, low, less))
  | inr same ↦ elim (eq-or-lt_of_le low) [
    | inl equal ↦ inr (equal ∙ same.0, later same.1)
    | inr less ↦ inl (let e = same.0 in omega (arith, e, less))
  ]
]

-- If a is no higher than p, and p comes before q, then a comes before q.
before_low : (a p q : Packet) → IsNoHigher a p → ComesBefore p q → ComesBefore a q
before_low a p q low h =
    first_low a.src p.src q.src _ _ low.src
    (first_low a.dst p.dst q.dst _ _ low.dst
    (first_low a.proto p.proto q.proto _ _ low.proto (first_low a.sport p.sport q.sport _ _ low.sport (λ less. let under = low.dport in omega (arith, under, less))))) h

first_not : (a p : ℕ) (P : Type 0) → a ≤ p → (P → ⊥) → comes_first p a P → ⊥
first_not a p P low later h = elim h [ inl less ↦ omega (arith, low, less) | inr same ↦ later same.1 ]

-- If a is no higher than p, then p does not come before a.
pub not_before : (a p : Packet) → IsNoHigher a p → ComesBefore p a → ⊥
not_before a p low h =
    first_not a.src p.src _ low.src
    (first_not a.dst p.dst _ low.dst (first_not a.proto p.proto _ low.proto (first_not a.sport p.sport _ low.sport (λ less. let under = low.dport in omega (arith, under, less))))) h

first_trans : (p q r : ℕ) (P Q R : Type 0) → (P → Q → R) → comes_first p q P → comes_first q r Q → comes_first p r R
first_trans p q r P Q R later one two = elim one [
  | inl less ↦ elim two [ inl also ↦ inl (omega (arith, less, also)) | inr same ↦ inl (let e = same.0 in omega (arith, less, e)) ]
  | inr same ↦ elim two [ inl less ↦ inl (let e = same.0 in omega (arith, e, less)) | inr also ↦ inr (same.0 ∙ also.0, later same.1 also.1) ]
]

before_trans : (p q r : Packet) → ComesBefore p q → ComesBefore q r → ComesBefore p r
before_trans p q r =
    first_trans p.src q.src r.src _ _ _ (first_trans p.dst q.dst r.dst _ _ _ (first_trans p.proto q.proto r.proto _ _ _ (first_trans p.sport q.sport r.sport _ _ _ (λ one two. omega (arith, one, two)))))

pub earlier_low : (found : Option Packet) (a p : Packet) → IsNoHigher a p → IsEarlier p found → IsEarlier a found
earlier_low None a p low early = tt
earlier_low (Some q) a p low early = before_low a p q low early

pub earlier_trans : (found : Option Packet) (p q : Packet) → ComesBefore p q → IsEarlier q found → IsEarlier p found
earlier_trans None p q before early = tt
earlier_trans (Some r) p q before early = before_trans p q r before early

-- A packet that comes before the new result of a search comes before the old result.
pub earlier_old : (Holds : Packet → Type 0) (old new : Option Packet) (p : Packet) → (new ≡ old) ⊎ Finds Holds old new → IsEarlier p new → IsEarlier p old
earlier_old Holds old new p (inl kept) early = subst (IsEarlier p) kept early
earlier_old Holds old new p (inr finds) early = earlier_trans old p finds.packet (subst (IsEarlier p) finds.is early) finds.earlier

-- ---- Testing a box

wide : (first last : ℕ) → first ≤ last → 0 < width first last
wide first last low = omega (arith, low)

pub some_volume : (b : PacketBox) → IsBox b → 0 < volume b
unfolding volume
some_volume b is =
    mul-pos (wide b.least.src b.greatest.src is.src)
    (mul-pos (wide b.least.dst b.greatest.dst is.dst)
    (mul-pos (wide b.least.proto b.greatest.proto is.proto)
    (mul-pos (wide b.least.sport b.greatest.sport is.sport) (wide b.least.dport b.greatest.dport is.dport))))

pub tries_by : (Holds : Packet → Type 0) (b part : PacketBox) (old new : List PacketBox) (answer : Bool) → Narrows b part
    → ((p : Packet) → IsIn part p → IsTrue answer ↔ Holds p) → Splits b old new part → Tries Holds b old new answer
tries_by Holds b part old new answer narrows alike splits = record {
  least = alike b.least (least_in b part narrows);
  fewer = let some = some_volume part narrows.is_box in let sums = splits.volumes in omega (arith, some, sums);
  packets = λ p inside. elim (splits.packets p inside) [ inl own ↦ inl (alike p own) | inr there ↦ inr there ];
  kept = splits.kept;
  within = λ whole are own. (splits.within whole are own).0;
}

-- ---- The search

pub in_whole : (whole b : PacketBox) (p : Packet) → IsWithin whole b → IsIn b p → IsIn whole p
in_whole whole b p within inside = record {
  above = low_trans whole.least b.least p within.above inside.above;
  below = low_trans p b.greatest whole.greatest inside.below within.below;
}

module _ (Holds : Packet → Type 0) (whole : PacketBox) (old : Option Packet) where
  pub seeks_first : IsBox whole → Seeks Holds whole old (whole ∷ []) old
  seeks_first is = record {
    are = (record { above = self_low whole.least; is_box = is; below = self_low whole.greatest }, tt);
    is = inl refl;
    left = λ p inside holds early. inl inside;
  }

  module _ (bs rest : List PacketBox) (b : PacketBox) (found : Option Packet) (same : bs ≡ rest ++ b ∷ []) (is : Seeks Holds whole old bs found) where
    both : AreWithin whole rest × IsWithin whole b
    both = within_front whole rest b (subst (λ (xs : List PacketBox). AreWithin whole xs) same is.are)

    pub popped_box : IsBox b
    popped_box = both.1.is_box

    pub popped_volumes : volumes bs ≡ volumes rest + volume b
    popped_volumes = ap (λ (xs : List PacketBox). volumes xs) same ∙ volumes_pushed rest b

    there : (p : Packet) → IsIn whole p → Holds p → IsEarlier p found → IsAmong rest p ⊎ IsIn b p
    there p inside holds early = among_cases rest b p (subst (λ (xs : List PacketBox). IsAmong xs p) same (is.left p inside holds early))

    -- If the least packet of a box does not come before the packet found, no packet of the box does.
    pub seeks_passed : (IsEarlier b.least found → ⊥) → Seeks Holds whole old rest found
    seeks_passed late = record {
      are = both.0;
      is = is.is;
      left = λ p inside holds early. elim (there p inside holds early) [
        | inl old ↦ old
        | inr own ↦ absurd (late (earlier_low found b.least p own.above early))
      ];
    }

    pub seeks_tried : (new : List PacketBox) (answer : Bool) → IsEarlier b.least found → Tries Holds b rest new answer
        → Seeks Holds whole old new (if answer then Some b.least else found)
    seeks_tried new true early tries = record {
      are = tries.within whole both.0 both.1;
      is = inr (record {
        packet = b.least;
        is = refl;
        holds = (in_whole whole b b.least both.1 (own_least b both.1.is_box), tries.least.0 refl);
        earlier = earlier_old (HoldsIn Holds whole) old found b.least is.is early;
      });
      left = λ p inside holds before. elim (there p inside holds (earlier_trans found p b.least before early)) [
        | inl old ↦ tries.kept p old
        | inr own ↦ absurd (not_before b.least p own.above before)
      ];
    }
    seeks_tried new false early tries = record {
      are = tries.within whole both.0 both.1;
      is = is.is;
      left = λ p inside holds before. elim (there p inside holds before) [
        | inl old ↦ tries.kept p old
        | inr own ↦ elim (tries.packets p own) [
          | inl alike ↦ let wrong : false ≡ true = alike.1 holds in cc
          | inr new' ↦ new'
        ]
      ];
    }

  pub seeks_done : (bs : List PacketBox) (found : Option Packet) → bs ≡ [] → Seeks Holds whole old bs found → Improves (HoldsIn Holds whole) old found
  seeks_done bs found none is = record {
    found = is.is;
    none = λ p holds early. subst (λ (xs : List PacketBox). IsAmong xs p) none (is.left p holds.0 holds.1 early);
  }
