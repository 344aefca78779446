-- Deciders: the rules or flow entries that decide packets of new connections.
use Rattle.std.specs.Prelude.{◌≡◌, ◌⊎◌, ◌↔◌, true, IsTrue, List, [], ◌∷◌, Option, Some, None}
use Rattle.host_net.specs.declared.packet.Packet.{Packet}
use Rattle.host_net.specs.declared.packet.CtState.TheVariants.{New}
use Rattle.header_space.specs.declared.packet_box.PacketBox.{PacketBox}
use Rattle.header_space.specs.Boxes.{IsIn}
use Rattle.ipt_rules.specs.declared.marks.Place.{Place}
use Rattle.ipt_rules.specs.Meets.{IsRuleDecider}
use Rattle.ofp_rules.specs.declared.entry.Frame.TheVariants.{Ipv4}
use Rattle.ofp_rules.specs.Deciders.{IsEntryDecider}
use Rattle.rules_space.specs.Rules.{AnyRules, Chains, Entries, filter_of}
use Rattle.pass_core.specs.Dead.{AreAscending, is_listed}
use Rattle.decide_core.specs.declared.deciders.Deciders.{Deciders}

-- The rule at the place decides the packet, as a packet of a new connection. If there is no place, the default decides: the policy of
-- FORWARD, or a table miss. Entry k of a flow table has place k of chain 0.
abbrev pub IsDecider : AnyRules → Packet → Option Place → Type 0
IsDecider (Chains chains) p decider = IsRuleDecider chains p New decider
IsDecider (Entries entries) p None = IsEntryDecider entries (Ipv4 p) None
IsDecider (Entries entries) p (Some place) = (place.chain ≡ 0) × IsEntryDecider entries (Ipv4 p) (Some place.rule)

-- The rule at the place, or the default, decides at least one of the packets `Among`.
pub record DecidesOne (rules : AnyRules) (Among : Packet → Type 0) (decider : Option Place) : Type 0 where
  pub packet : Packet
  pub among : Among packet
  pub decides : IsDecider rules packet decider

-- The packet is one of the packets `Among`, and passes as a packet of a new connection.
abbrev pub PassesAmong : AnyRules → (Packet → Type 0) → Packet → Type 0
PassesAmong rules Among p = Among p × filter_of rules New p true

-- The places are those of all rules that decide at least one of the packets `Among` such that it passes, in ascending order. `by_default`
-- states whether the default decides such a packet.
pub record AreDeciders (rules : AnyRules) (Among : Packet → Type 0) (d : Deciders) : Type 0 where
  pub ascending : AreAscending d.places.items
  pub exact : (place : Place) → IsTrue (is_listed d.places.items place) ↔ DecidesOne rules (PassesAmong rules Among) (Some place)
  pub by_default : IsTrue d.by_default ↔ DecidesOne rules (PassesAmong rules Among) None

-- The packet is in one of the boxes.
abbrev pub IsInOne : List PacketBox → Packet → Type 0
IsInOne [] p = ⊥
IsInOne (b ∷ boxes) p = IsIn b p ⊎ IsInOne boxes p
