-- Dead rules: the rules that no packet that enters FORWARD meets, in any state of its connection.
use Rattle.std.specs.Prelude.{◌≡◌, ◌≢◌, ◌⊎◌, ◌↔◌, ◌<◌, ◌==◌, ◌&&◌, ◌||◌, Bool, false, IsTrue, List, [], ◌∷◌, length}
use Rattle.host_net.specs.declared.packet.Packet.{Packet}
use Rattle.host_net.specs.declared.packet.CtState.{CtState}
use Rattle.host_net.specs.declared.packet.Verdict.{Verdict}
use Rattle.host_net.specs.Packet.{IsPacket}
use Rattle.ipt_rules.specs.declared.marks.Place.{Place}
use Rattle.ipt_rules.specs.Chain.{Chain, rules_of}
use Rattle.ipt_rules.specs.DeadRules.{without_places}
use Rattle.ipt_rules.specs.Meets.{IsMet}
use Rattle.ipt_rules.specs.Semantics.{HasVerdictIn}

-- The rule at the place is dead: no packet that enters FORWARD meets it, in any state.
abbrev pub IsDead : List Chain → Place → Type 0
IsDead chains place = (p : Packet) (state : CtState) → IsPacket p → IsMet chains p state place → ⊥

-- The place has a rule of FORWARD or of a user chain: not of INPUT, chain 0, and not of OUTPUT, chain 2.
pub record HasForwardRule (chains : List Chain) (place : Place) : Type 0 where
  pub there : place.rule < length (rules_of chains place.chain)
  pub not_input : place.chain ≢ 0
  pub not_output : place.chain ≢ 2

-- ---- lists of places

-- The first place precedes the second: its chain is earlier, or the chain is the same and its rule is earlier.
abbrev pub ComesBefore : Place → Place → Type 0
ComesBefore p q = (p.chain < q.chain) ⊎ ((p.chain ≡ q.chain) × (p.rule < q.rule))

-- The place precedes the first place of the list, if there is one.
abbrev pub ComesFirst : Place → List Place → Type 0
ComesFirst p [] = Unit {0}
ComesFirst p (q ∷ qs) = ComesBefore p q

-- The places are in strictly ascending order.
abbrev pub AreAscending : List Place → Type 0
AreAscending [] = Unit {0}
AreAscending (p ∷ ps) = ComesFirst p ps × AreAscending ps

-- The two places have the same chain number and the same rule number.
abbrev pub same_place : Place → Place → Bool
same_place p q = (p.chain == q.chain) && (p.rule == q.rule)

-- The place is in the list.
abbrev pub is_listed : List Place → Place → Bool
is_listed [] place = false
is_listed (p ∷ ps) place = same_place p place || is_listed ps place

-- ---- all dead rules

-- The places are those of all dead rules of FORWARD and of user chains, in ascending order.
pub record AreDead (chains : List Chain) (places : List Place) : Type 0 where
  pub ascending : AreAscending places
  pub exact : (place : Place) → IsTrue (is_listed places place) ↔ (HasForwardRule chains place × IsDead chains place)

-- The rules at the places are removable: without them, each packet that enters FORWARD, chain 1, has the same verdict in each state.
abbrev pub AreRemovable : List Chain → List Place → Type 0
AreRemovable chains places =
    (p : Packet) (state : CtState) (v : Verdict) → IsPacket p → (HasVerdictIn chains 1 p state v ↔ HasVerdictIn (without_places (is_listed places) chains) 1 p state v)
