-- Sources of an owner, and the packets of a pair from these sources.
use Rattle.std.proofs.Common.{◌≡◌, ◌↔◌, inl, inr, ℕ, ◌≤◌, Bool, true, false, not, IsTrue, List, [], ◌∷◌, ◌++◌, Option, Some, None, is_some, refl, sym, ap, subst, ◌∙◌, true≢false, arith}
use Rattle.std.proofs.lemmas.List.{map-append}
use Rattle.std.proofs.lemmas.List.Elements.{All-push}
use Rattle.host_net.specs.declared.packet.Packet.{Packet}
use Rattle.host_net.specs.Packet.{IsPacket}
use Rattle.header_space.specs.declared.packet_box.PacketBox.{PacketBox}
use Rattle.header_space.specs.Boxes.{IsIn}
use Rattle.header_space.specs.Searching.{IsLeastWhere}
use Rattle.audit_core.specs.declared.difference.Difference.{Difference}
use Rattle.audit_core.specs.declared.difference.Direction.{Direction}
use Rattle.audit_core.specs.declared.list_end.Ends.{Ends}
use Rattle.header_space.specs.declared.address_range.AddressRange.{AddressRange}
use Rattle.header_space.specs.declared.owners.Owned.{Owned}
use Rattle.audit_core.specs.declared.sources.Sender.{Sender}
use Rattle.audit_core.specs.declared.sources.Source.{Source}
use Rattle.audit_core.specs.Findings.{trace_of}
use Rattle.header_space.specs.Owners.{GoesBetween, IsOfPair, IsOwned, IsRange, LiesIn, LiesInOne}
use Rattle.audit_core.specs.inner.Pairs.{AreSources, DiffersSo, HaveSameEnds, HoldsBetween, HoldsOf, IsDifferent, IsFoundBetween, IsSender, IsSource, SaysWhether, every_address, ranges_in}
use Rattle.audit_core.specs.Pairs.{Case, HasNone, IsDifference, case_of}
use Rattle.audit_core.specs.Sides.{Sides}
use Rattle.header_space.proofs.CutLaws.{found_one}
use Rattle.header_space.proofs.OwnersLaws.{covered_cases, covered_left, covered_owned, covered_right}

-- 1. Sources, in order.

module _ (sides : Sides) where
  -- A range from which no packet differs has no source.
  pub sources_same : (ranges all : List AddressRange) (sources : List Source) (range : AddressRange) (s : Source) (answer : Bool)
      → AreSources sides ranges sources → IsSource sides s → s.range ≡ range → SaysWhether s answer → answer ≡ false → all ≡ ranges ++ range ∷ []
      → AreSources sides all sources
  sources_same ranges all sources range s answer are is same says lacks all_is = subst (λ (l : List AddressRange). AreSources sides l sources) (sym all_is) (record {
    each = are.each;
    within = λ a covered. covered_left ranges (range ∷ []) a (are.within a covered);
    covered = λ p packet covered differs. elim (covered_cases ranges (range ∷ []) p.src covered) [
      | inl left ↦ are.covered p packet left differs
      | inr right ↦ absurd (none p packet right differs)
    ];
  })
    where
      none : (p : Packet) → IsPacket p → LiesInOne (range ∷ []) p.src → IsDifferent sides p → ⊥
      none p packet (inl lies) differs =
          let there = subst (λ (r : AddressRange). LiesIn r p.src) (sym same) lies in
          true≢false (sym (says p packet there ((is.same None p packet there).1 differs)) ∙ lacks)
      none p packet (inr other) differs = other

  -- A range from which some packet differs is the range of a source.
  pub sources_more : (ranges all : List AddressRange) (sources new : List Source) (range : AddressRange) (s : Source)
      → AreSources sides ranges sources → IsSource sides s → s.range ≡ range → all ≡ ranges ++ range ∷ [] → new ≡ sources ++ s ∷ []
      → AreSources sides all new
  sources_more ranges all sources new range s are is same all_is new_is =
      subst (λ (l : List AddressRange). AreSources sides l new) (sym all_is) (subst (AreSources sides (ranges ++ range ∷ [])) (sym new_is) (record {
        each = All-push (IsSource sides) sources s are.each is;
        within = λ a covered. elim (covered_cases (ranges_in sources) (s.range ∷ []) a (split a covered)) [
          | inl left ↦ covered_left ranges (range ∷ []) a (are.within a left)
          | inr right ↦ covered_right ranges (range ∷ []) a (subst (λ (r : AddressRange). LiesInOne (r ∷ []) a) same right)
        ];
        covered = λ p packet covered differs. elim (covered_cases ranges (range ∷ []) p.src covered) [
          | inl left ↦ joined p.src (covered_left (ranges_in sources) (s.range ∷ []) p.src (are.covered p packet left differs))
          | inr right ↦
              joined p.src (covered_right (ranges_in sources) (s.range ∷ []) p.src (subst (λ (r : AddressRange). LiesInOne (r ∷ []) p.src) (sym same) right))
        ];
      }))
    where
      ranges_are : ranges_in (sources ++ s ∷ []) ≡ ranges_in sources ++ s.range ∷ []
      ranges_are = map-append (λ (x : Source). x.range) sources (s ∷ [])

      split : (a : ℕ) → LiesInOne (ranges_in (sources ++ s ∷ [])) a → LiesInOne (ranges_in sources ++ s.range ∷ []) a
      split a covered = subst (λ (l : List AddressRange). LiesInOne l a) ranges_are covered

      joined : (a : ℕ) → LiesInOne (ranges_in sources ++ s.range ∷ []) a → LiesInOne (ranges_in (sources ++ s ∷ [])) a
      joined a covered = subst (λ (l : List AddressRange). LiesInOne l a) (sym ranges_are) covered

  pub sender_is : (o : Owned) (s : Sender) → IsOwned sides.policy.site.hosts o → AreSources sides o.ranges.items s.sources.items → s.owner ≡ o.owner
      → IsSender sides s
  sender_is o s owned are same = record {
    each = are.each;
    owned = λ a covered. covered_owned sides.policy.site.hosts o.owner o.ranges.items owned.owned a (are.within a covered) ∙ sym same;
    covered = λ p is of differs. are.covered p is (owned.covered p.src is.0 (of ∙ same)) differs;
  }

lies_every : (every : AddressRange) → every ≡ every_address → (p : Packet) → IsPacket p → LiesIn every p.dst
lies_every every is p packet =
    let low = packet.1 in
    let high : p.dst ≤ 4294967295 = omega (arith, low) in
    subst (λ (r : AddressRange). LiesIn r p.dst) (sym is) (omega arith, high)

-- A source with all rules, or with the rules for the packets of a box.
module _ (sides : Sides) (range every : AddressRange) (some : IsRange range) (is_every : every ≡ every_address) (b : PacketBox)
    (inside : (p : Packet) → IsPacket p → LiesIn range p.src → LiesIn every p.dst → IsIn b p) (whole : Ends)
    (same : (direction : Option Direction) (p : Packet) → IsPacket p → (HoldsOf whole direction p ↔ DiffersSo sides direction p)) where
  pub source_whole : (ends : Ends) → ends ≡ whole → IsSource sides (record { range = range; ends = ends })
  source_whole ends is = record {
    some = some;
    same = λ direction p packet lies. subst (λ (e : Ends). HoldsOf e direction p ↔ DiffersSo sides direction p) (sym is) (same direction p packet);
  }

  pub source_part : (ends : Ends) → HaveSameEnds b whole ends → IsSource sides (record { range = range; ends = ends })
  source_part ends alike = record {
    some = some;
    same = λ direction p packet lies.
        let here = alike p (inside p packet lies (lies_every every is_every p packet)) direction in
        let there = same direction p packet in ((λ h. there.0 (here.0 h)), (λ h. here.1 (there.1 h)));
  }

-- If the property holds for some packet of the box, the search finds a packet.
pub found_where : (Holds : Packet → Type 0) (b : PacketBox) (found : Option Packet) → IsLeastWhere Holds b found → (p : Packet) → IsIn b p → Holds p
    → IsTrue (is_some found)
found_where Holds b None none p inside holds = absurd (none p inside holds)
found_where Holds b (Some q) least p inside holds = refl

pub within_every : (b : PacketBox) (range every : AddressRange) → every ≡ every_address
    → ((p : Packet) → IsPacket p → LiesIn range p.src → LiesIn every p.dst → IsIn b p) → (p : Packet) → IsPacket p → LiesIn range p.src → IsIn b p
within_every b range every is inside p packet lies = inside p packet lies (lies_every every is p packet)

pub none_when : (found : Option Packet) (none : Bool) → is_some found ≡ not none → none ≡ true → found ≡ None
none_when None none is yes' = refl
none_when (Some p) none is yes' = absurd (true≢false (is ∙ ap not yes'))

-- 2. Packets of a pair go between the ranges of its owners.

module _ (sides : Sides) (from : Sender) (to : Owned) (sender : IsSender sides from) (owned : IsOwned sides.policy.site.hosts to) where
  goes_where : (p : Packet) → IsOfPair sides.policy.site.hosts from.owner to.owner p → IsDifferent sides p
      → GoesBetween (ranges_in from.sources.items) to.ranges.items p
  goes_where p of differs = record {
    packet = of.packet;
    src = sender.covered p of.packet of.src differs;
    dst = owned.covered p.dst of.packet.1 of.dst;
  }

  pair_of : (p : Packet) → GoesBetween (ranges_in from.sources.items) to.ranges.items p → IsOfPair sides.policy.site.hosts from.owner to.owner p
  pair_of p goes = record {
    packet = goes.packet;
    src = sender.owned p.src goes.src;
    dst = covered_owned sides.policy.site.hosts to.owner to.ranges.items owned.owned p.dst goes.dst;
  }

  pub none_differs : (found : Option Packet) → found ≡ None → IsFoundBetween (DiffersSo sides None) (ranges_in from.sources.items) to.ranges.items found
      → (c : Case) → c.from ≡ from.owner → c.to ≡ to.owner → HasNone sides c
  none_differs found is none c here there p of differs =
      let moved = subst (λ (o : Option ℕ). IsOfPair sides.policy.site.hosts o to.owner p) here (subst (λ (o : Option ℕ). IsOfPair sides.policy.site.hosts c.from o p) there of) in
      let any : IsDifferent sides p = (c.kind, c.forwards, differs) in
      (subst (λ (found : Option Packet). IsFoundBetween (IsDifferent sides) (ranges_in from.sources.items) to.ranges.items found) is none).none p
      (goes_where p moved any, any) tt

  pub none_of : (direction : Direction) → IsFoundBetween (DiffersSo sides (Some direction)) (ranges_in from.sources.items) to.ranges.items None
      → HasNone sides (case_of from.owner to.owner direction.kind direction.forwards)
  none_of direction none p of differs = none.none p (goes_where p of (direction.kind, direction.forwards, differs), differs) tt

  pub one_of : (direction : Direction) (p : Packet)
      → IsFoundBetween (DiffersSo sides (Some direction)) (ranges_in from.sources.items) to.ranges.items (Some p) → (d : Difference)
      → d ≡ record { from = from.owner; to = to.owner; trace = trace_of direction.kind p direction.forwards }
      → IsDifference sides (case_of from.owner to.owner direction.kind direction.forwards) d
  one_of direction p found d is =
      let own = found_one (HoldsBetween (DiffersSo sides (Some direction)) (ranges_in from.sources.items) to.ranges.items) p found in record {
        packet = p;
        of_pair = pair_of p own.0;
        differs = own.1;
        first = λ q of before differs. found.none q (goes_where q of (direction.kind, direction.forwards, differs), differs) before;
        is = is;
      }
