-- Areas between two sets of addresses.
use Rattle.std.proofs.Common.{◌≡◌, ◌⊎◌, inl, inr, ℕ, ◌<◌, List, [], ◌∷◌, ◌++◌, map, length, ap, subst, sym, arith}
use Rattle.std.specs.List.{All}
use Rattle.std.proofs.lemmas.List.Elements.{All-append, All-head, All-map, All-nil, All-tail, All-weaker}
use Rattle.host_net.specs.declared.packet.Packet.{Packet}
use Rattle.host_net.specs.Packet.{IsPacket}
use Rattle.header_space.specs.declared.address_range.AddressRange.{AddressRange}
use Rattle.pass_core.specs.declared.area.Area.{Area}
use Rattle.header_space.specs.Owners.{GoesBetween, IsRange, LiesIn, LiesInOne}
use Rattle.pass_core.specs.Passing.{AreRanges}
use Rattle.pass_core.specs.inner.Areas.{IsArea, IsInOne, area_between, areas_between}

-- ---- packets in areas

-- Membership in areas depends only on the addresses of a packet.
pub in_same : (areas : List Area) (p q : Packet) → q.src ≡ p.src → q.dst ≡ p.dst → IsInOne areas p → IsInOne areas q
in_same [] p q src dst there = there
in_same (a ∷ areas) p q src dst there = elim there [
  | inl here ↦ inl (subst (λ (n : ℕ). LiesIn a.from n) (sym src) here.0, subst (λ (n : ℕ). LiesIn a.to n) (sym dst) here.1)
  | inr later ↦ inr (in_same areas p q src dst later)
]

in_first : (xs ys : List Area) (p : Packet) → IsInOne xs p → IsInOne (xs ++ ys) p
in_first [] ys p there = absurd there
in_first (x ∷ xs) ys p there = elim there [ inl here ↦ inl here | inr later ↦ inr (in_first xs ys p later) ]

in_second : (xs ys : List Area) (p : Packet) → IsInOne ys p → IsInOne (xs ++ ys) p
in_second [] ys p there = there
in_second (x ∷ xs) ys p there = inr (in_second xs ys p there)

pub in_either : (xs ys : List Area) (p : Packet) → IsInOne (xs ++ ys) p → IsInOne xs p ⊎ IsInOne ys p
in_either [] ys p there = inr there
in_either (x ∷ xs) ys p there = elim there [
  | inl here ↦ inl (inl here)
  | inr later ↦ elim (in_either xs ys p later) [ inl first ↦ inl (inr first) | inr second ↦ inr second ]
]

-- ---- the areas between two sets of addresses

in_row : (source : AddressRange) (to : List AddressRange) (p : Packet) → IsInOne (map (area_between source) to) p → LiesIn source p.src × LiesInOne to p.dst
in_row source [] p there = absurd there
in_row source (t ∷ to) p there = elim there [
  | inl here ↦ (here.0, inl here.1)
  | inr later ↦ let rest = in_row source to p later in (rest.0, inr rest.1)
]

to_row : (source : AddressRange) (to : List AddressRange) (p : Packet) → LiesIn source p.src → LiesInOne to p.dst → IsInOne (map (area_between source) to) p
to_row source [] p src dst = absurd dst
to_row source (t ∷ to) p src dst = elim dst [ inl here ↦ inl (src, here) | inr later ↦ inr (to_row source to p src later) ]

in_between : (from to : List AddressRange) (p : Packet) → IsInOne (areas_between from to) p → LiesInOne from p.src × LiesInOne to p.dst
in_between [] to p there = absurd there
in_between (s ∷ from) to p there = elim (in_either (map (area_between s) to) (areas_between from to) p there) [
  | inl row ↦ let both = in_row s to p row in (inl both.0, both.1)
  | inr later ↦ let both = in_between from to p later in (inr both.0, both.1)
]

to_between : (from to : List AddressRange) (p : Packet) → LiesInOne from p.src → LiesInOne to p.dst → IsInOne (areas_between from to) p
to_between [] to p src dst = absurd src
to_between (s ∷ from) to p src dst = elim src [
  | inl here ↦ in_first (map (area_between s) to) (areas_between from to) p (to_row s to p here dst)
  | inr later ↦ in_second (map (area_between s) to) (areas_between from to) p (to_between from to p later dst)
]

pub goes_between : (from to : List AddressRange) (areas : List Area) (p : Packet) → areas ≡ areas_between from to → IsPacket p → IsInOne areas p → GoesBetween from to p
goes_between from to areas p same is there =
    let both = in_between from to p (subst (λ (xs : List Area). IsInOne xs p) same there) in
    record { packet = is; src = both.0; dst = both.1 }

pub in_areas : (from to : List AddressRange) (areas : List Area) (p : Packet) → areas ≡ areas_between from to → GoesBetween from to p → IsInOne areas p
in_areas from to areas p same goes = subst (λ (xs : List Area). IsInOne xs p) (sym same) (to_between from to p goes.src goes.dst)

pub all_areas : (from to : List AddressRange) → All IsRange from → All IsRange to → All IsArea (areas_between from to)
all_areas [] to sources targets = All-nil IsArea
all_areas (s ∷ from) to sources targets =
    All-append IsArea (map (area_between s) to) (areas_between from to)
    (All-map IsArea (area_between s) to (All-weaker IsRange (λ (t : AddressRange). IsArea (area_between s t)) (λ t is. (All-head IsRange s from sources, is)) to targets))
    (all_areas from to (All-tail IsRange s from sources) targets)

pub are_areas : (from to : List AddressRange) (areas : List Area) → areas ≡ areas_between from to → AreRanges from → AreRanges to → All IsArea areas
are_areas from to areas same sources targets = subst (λ (xs : List Area). All IsArea xs) (sym same) (all_areas from to sources.1 targets.1)

some_between : (from to : List AddressRange) → 0 < length from → 0 < length to → 0 < length (areas_between from to)
some_between [] to sources targets = absurd (omega (arith, sources))
some_between (s ∷ from) [] sources targets = absurd (omega (arith, targets))
some_between (s ∷ from) (t ∷ to) sources targets = omega arith

pub some_asked : {A : Type 0} (area : A → Area) (from to : List AddressRange) (asked : List A) → map area asked ≡ areas_between from to
    → AreRanges from → AreRanges to → 0 < length asked
some_asked area from to [] same sources targets =
    let none : 0 < length (areas_between from to) = some_between from to sources.0 targets.0 in
    let empty : 0 ≡ length (areas_between from to) = ap length same in
    absurd (omega (arith, none, empty))
some_asked area from to (a ∷ asked) same sources targets = omega arith
