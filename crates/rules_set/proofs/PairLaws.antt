-- Laws of the sets of a pair of sets of addresses.
use Rattle.std.proofs.Common.{◌≡◌, ◌⊎◌, inl, inr, ℕ, ◌<◌, Bool, true, false, List, [], ◌∷◌, length, refl, sym, ap, subst, ◌∙◌, arith}
use Rattle.std.specs.Prelude.{◌&&◌, ◌||◌, not}
use Rattle.std.proofs.lemmas.Bool.Decides.{nat_tests}
use Rattle.host_net.specs.declared.packet.Packet.{Packet}
use Rattle.host_net.specs.declared.packet.CtState.{CtState}
use Rattle.host_net.specs.Packet.{IsPacket}
use Rattle.header_space.specs.declared.address_range.AddressRange.{AddressRange}
use Rattle.header_space.specs.declared.packet_box.PacketBox.{PacketBox}
use Rattle.header_space.specs.Boxes.{IsIn}
use Rattle.header_space.specs.Matching.{lies_in}
use Rattle.header_space.specs.Owners.{GoesBetween, LiesIn, LiesInOne}
use Rattle.ipt_rules.specs.Chain.{Chain}
use Rattle.ipt_rules.specs.Semantics.{PassesChains}
use Rattle.packet_set.specs.declared.node.Node.{Node}
use Rattle.packet_set.specs.Nodes.{has}
use Rattle.packet_set.specs.Sets.{IsSet, Keeps, is_among, match_of}
use Rattle.rules_set.specs.Accepting.{IsAcceptedBy}
use Rattle.rules_set.specs.Pairs.{ArePairSets}

-- ---- ranges

lies_by : (range : AddressRange) (n : ℕ) → lies_in (match_of range) n ≡ true → LiesIn range n
lies_by range n is = (grind (arith, nat_tests), grind (arith, nat_tests))

by_lies : (range : AddressRange) (n : ℕ) → LiesIn range n → lies_in (match_of range) n ≡ true
by_lies range n lies = let low = lies.0 in let high = lies.1 in grind (arith, nat_tests)

or_true : (x y : Bool) → (x || y) ≡ true → (x ≡ true) ⊎ (y ≡ true)
or_true true y is = inl refl
or_true false y is = inr is

or_first : (x y : Bool) → x ≡ true → (x || y) ≡ true
or_first true y is = refl
or_first false y is = absurd (cc)

or_second : (x y : Bool) → y ≡ true → (x || y) ≡ true
or_second true y is = refl
or_second false y is = is

lies_among : (ranges : List AddressRange) (n : ℕ) → is_among ranges n ≡ true → LiesInOne ranges n
lies_among [] n is = absurd (cc)
lies_among (r ∷ rs) n is = elim (or_true (lies_in (match_of r) n) (is_among rs n) is) [ inl here ↦ inl (lies_by r n here) | inr later ↦ inr (lies_among rs n later) ]

among_lies : (ranges : List AddressRange) (n : ℕ) → LiesInOne ranges n → is_among ranges n ≡ true
among_lies [] n lies = absurd lies
among_lies (r ∷ rs) n (inl here) = or_first (lies_in (match_of r) n) (is_among rs n) (by_lies r n here)
among_lies (r ∷ rs) n (inr later) = or_second (lies_in (match_of r) n) (is_among rs n) (among_lies rs n later)

-- ---- tests

and_both : (x y : Bool) → (x && (y && true)) ≡ true → (x ≡ true) × (y ≡ true)
and_both true true is = (refl, refl)
and_both true false is = absurd (cc)
and_both false y is = absurd (cc)

both_and : (x y : Bool) → x ≡ true → y ≡ true → (x && (y && true)) ≡ true
both_and x y one two = cc

and_first : (x y : Bool) → (x && y) ≡ true → x ≡ true
and_first true y is = refl
and_first false y is = is

passing_if : (area accepted : Bool) → area ≡ true → (area && accepted) ≡ accepted
passing_if true accepted is = refl
passing_if false accepted is = absurd (cc)

-- ---- the sets

module _ (one two three four new : List Node) (chains : List Chain) (state : CtState) (b : PacketBox) (from to : List AddressRange)
    (accepted every into between passing staying : ℕ) (is : IsAcceptedBy one chains state b accepted) (all : IsSet one every (λ p. true))
    (intos : IsSet two into (λ p. is_among to p.dst && has one every p)) (areas : IsSet three between (λ p. is_among from p.src && has two into p))
    (passes : IsSet four passing (λ p. has three between p && has three accepted p))
    (stays : IsSet new staying (λ p. has four between p && not (has four accepted p)))
    (first : Keeps one two) (second : Keeps two three) (third : Keeps three four) (fourth : Keeps four new)
    (there_two : accepted < length two) (there_three : accepted < length three)
    (covers : (p : Packet) → GoesBetween from to p → IsIn b p) where
  area : (p : Packet) → has three between p ≡ (is_among from p.src && (is_among to p.dst && true))
  area p = areas.exact p ∙ ap (λ (x : Bool). is_among from p.src && x) (intos.exact p ∙ ap (λ (x : Bool). is_among to p.dst && x) (all.exact p))

  accepted_is : (p : Packet) → has three accepted p ≡ has one accepted p
  accepted_is p = second.same accepted there_two p ∙ first.same accepted is.there p

  passing_is : (p : Packet) → has new passing p ≡ (has three between p && has one accepted p)
  passing_is p = fourth.same passing passes.there p ∙ (passes.exact p ∙ ap (λ (x : Bool). has three between p && x) (accepted_is p))

  staying_is : (p : Packet) → has new staying p ≡ (has three between p && not (has one accepted p))
  staying_is p = stays.exact p ∙ (ap (λ (x : Bool). x && not (has four accepted p)) (third.same between areas.there p)
      ∙ ap (λ (x : Bool). has three between p && not x) (third.same accepted there_three p ∙ accepted_is p))

  in_area : (p : Packet) → GoesBetween from to p → has three between p ≡ true
  in_area p goes = area p ∙ both_and _ _ (among_lies from p.src goes.src) (among_lies to p.dst goes.dst)

  from_area : (p : Packet) → IsPacket p → has three between p ≡ true → GoesBetween from to p
  from_area p packet there =
      let both = and_both (is_among from p.src) (is_among to p.dst) (sym (area p) ∙ there) in
      record { packet = packet; src = lies_among from p.src both.0; dst = lies_among to p.dst both.1 }

  pub are_sets : ArePairSets chains state from to new (record { passing = passing; staying = staying })
  are_sets = record {
    passing_there = let x = passes.there in let y = fourth.longer in omega (arith, x, y);
    staying_there = stays.there;
    passes = λ p goes. subst (PassesChains chains state p) (sym (passing_is p ∙ passing_if (has three between p) (has one accepted p) (in_area p goes)))
        (is.exact p (covers p goes));
    stays = λ p goes. staying_is p ∙ (passing_if (has three between p) (not (has one accepted p)) (in_area p goes)
        ∙ ap not (sym (passing_is p ∙ passing_if (has three between p) (has one accepted p) (in_area p goes))));
    between = λ p packet either. from_area p packet (elim either [
      | inl passes_it ↦ and_first (has three between p) (has one accepted p) (sym (passing_is p) ∙ passes_it)
      | inr stays_it ↦ and_first (has three between p) (not (has one accepted p)) (sym (staying_is p) ∙ stays_it)
    ]);
  }
