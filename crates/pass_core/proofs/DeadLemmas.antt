-- The places of unmarked rules are the places of dead rules.
use Rattle.std.proofs.Common.{◌≡◌, inl, inr, ℕ, zero, suc, ◌<◌, ◌≤◌, true, false, List, [], ◌∷◌, length, refl, sym, subst, ◌∙◌, arith}
use Rattle.std.proofs.lemmas.Bool.{cases_lt, false_from_ne_true, false≢true, true_from_ne_false, true≢false}
use Rattle.host_net.specs.declared.packet.Packet.{Packet}
use Rattle.header_space.specs.declared.packet_box.PacketBox.{PacketBox}
use Rattle.header_space.specs.Boxes.{IsIn, every_packet}
use Rattle.ipt_rules.specs.declared.marks.Place.{Place}
use Rattle.ipt_rules.specs.Chain.{Chain, rules_of}
use Rattle.ipt_rules.specs.Marks.{is_marked}
use Rattle.ipt_rules.specs.inner.OneOutcome.{AreDeterministic}
use Rattle.ipt_rules.proofs.DeadRuleLaws.{same_verdicts}
use Rattle.rules_space.proofs.EveryPacketLaws.{in_every, packet_in_every}
use Rattle.pass_core.specs.Dead.{AreDead, AreRemovable, HasForwardRule, IsDead, is_listed}
use Rattle.pass_core.specs.inner.Meeting.{AreForwardMarked, IsMetWithin, IsUnmarked, MarksMore, MetRules}
use Rattle.pass_core.specs.inner.Places.{AreBefore}
use Rattle.pass_core.proofs.PlaceLaws.{all_before, at}

-- ---- rules of chains

pub no_rules : (chains : List Chain) (c : ℕ) → length chains ≤ c → length (rules_of chains c) ≡ 0
no_rules [] c few = refl
no_rules (x ∷ chains) zero few = absurd (omega (arith, few))
no_rules (x ∷ chains) (suc c) few = no_rules chains c (omega (arith, few))

chain_there : (chains : List Chain) (q : Place) → HasForwardRule chains q → q.chain < length chains
chain_there chains q rule = elim (cases_lt q.chain (length chains)) [
  | inl low ↦ low
  | inr high ↦ let none = no_rules chains q.chain high in let there = rule.there in absurd (omega (arith, none, there))
]

-- ---- dead rules

no_places : (places : List Place) → length places ≡ 0 → places ≡ []
no_places [] none = refl
no_places (x ∷ places) none = absurd (omega (arith, none))

-- No rule of FORWARD or of a user chain is unmarked.
pub none_unmarked : (m : MetRules) (places : List Place) → AreBefore (IsUnmarked m.chains m.marks) (at (length m.chains) 0) places
    → length places ≡ 0 → (p : Packet) → AreForwardMarked m p
none_unmarked m places are none p state place rule met =
    true_from_ne_false (is_marked m.marks place)
    (λ off.
    let listed = (all_before (IsUnmarked m.chains m.marks) (length m.chains) places (λ q is. chain_there m.chains q is.0) are place).1 (rule, off) in
    false≢true (subst (λ (l : List Place). is_listed l place ≡ true) (no_places places none) listed))

module _ (chains : List Chain) (b : PacketBox) (old new : MetRules) (same : old.chains ≡ chains) (every : b ≡ every_packet)
    (none : (place : Place) → is_marked old.marks place ≡ false) (more : MarksMore b old new) (known : (p : Packet) → IsIn b p → AreForwardMarked new p) where
  unmarked_dead : (place : Place) → HasForwardRule chains place → is_marked new.marks place ≡ false → IsDead chains place
  unmarked_dead place rule off p state is met =
      let inside : IsIn b p = rw every (in_every p is) in
      let rule_now = subst (λ (cs : List Chain). HasForwardRule cs place) (sym (more.chains ∙ same)) rule in
      true≢false (sym (known p inside state place rule_now (rw (more.chains, same) met)) ∙ off)

  not_met : (place : Place) → IsDead chains place → IsMetWithin old.chains b place → ⊥
  not_met place dead within =
      dead within.packet within.state (packet_in_every within.packet (rw every at within.inside)) (rw same at within.met)

  dead_unmarked : (place : Place) → IsDead chains place → is_marked new.marks place ≡ false
  dead_unmarked place dead =
      false_from_ne_true (is_marked new.marks place)
      (λ on. elim (more.only place on) [
        | inl before ↦ true≢false (sym before ∙ none place)
        | inr within ↦ not_met place dead within
      ])

  pub are_dead : (places : List Place) → AreBefore (IsUnmarked chains new.marks) (at (length chains) 0) places → AreDead chains places
  are_dead places are = record {
    ascending = are.ascending;
    exact = λ place.
        let unmarked = all_before (IsUnmarked chains new.marks) (length chains) places (λ q is. chain_there chains q is.0) are place in (
          λ listed. let is = unmarked.0 listed in (is.0, unmarked_dead place is.0 is.1),
          λ dead. unmarked.1 (dead.0, dead_unmarked place dead.1),
        );
  }

pub are_removable : (chains : List Chain) (places : List Place) → AreDeterministic chains → AreDead chains places → AreRemovable chains places
are_removable chains places each dead p state v is =
    same_verdicts (is_listed places) chains p state each (λ place on met. ((dead.exact place).0 on).1 p state is met) v
