-- The rules that packets of a set meet, each with sets of the packets that meet it.
use Rattle.std.specs.Prelude.{◌≡◌, ◌⊎◌, ◌↔◌, ℕ, ◌<◌, true, List, [], ◌∷◌, length, None, is_some}
use Rattle.std.specs.List.{All}
use Rattle.host_net.specs.declared.packet.Packet.{Packet}
use Rattle.host_net.specs.declared.packet.CtState.{CtState}
use Rattle.header_space.specs.declared.packet_box.PacketBox.{PacketBox}
use Rattle.header_space.specs.Boxes.{IsIn}
use Rattle.ipt_rules.specs.declared.marks.Place.{Place}
use Rattle.ipt_rules.specs.Chain.{Chain, rules_of}
use Rattle.ipt_rules.specs.Matching.{matches}
use Rattle.ipt_rules.specs.Meets.{IsMet, verdict_at}
use Rattle.ipt_rules.specs.Semantics.{Gives}
use Rattle.packet_set.specs.declared.node.Node.{Node}
use Rattle.packet_set.specs.Nodes.{has}
use Rattle.rules_set.specs.declared.met.MetSet.{MetSet}
use Rattle.rules_set.specs.declared.met.MetSets.{MetSets}

-- The packet is in a set of the rule at the place.
abbrev pub IsListed : List Node → List MetSet → Packet → Place → Type 0
IsListed nodes [] p place = ⊥
IsListed nodes (m ∷ ms) p place = ((m.place ≡ place) × (has nodes m.set p ≡ true)) ⊎ IsListed nodes ms p place

-- The set exists, and `ends` states whether the target of its rule is a verdict.
pub record IsSetOfRule (nodes : List Node) (chains : List Chain) (m : MetSet) : Type 0 where
  pub there : m.set < length nodes
  pub ends : m.ends ≡ is_some (verdict_at chains m.place)

abbrev pub AreSetsOfRules : List Node → List Chain → List MetSet → Type 0
AreSetsOfRules nodes chains sets = All (IsSetOfRule nodes chains) sets

-- A packet of the box is in a set of a rule if and only if it is in the set `incoming` and meets the rule. It is in the set `returned` if and
-- only if it is in the set `incoming` and no rule of FORWARD, chain 1, gives it a verdict.
pub record AreMet (old new : List Node) (chains : List Chain) (state : CtState) (b : PacketBox) (incoming : ℕ) (m : MetSets) : Type 0 where
  pub sets : AreSetsOfRules new chains m.sets.items
  pub met : (p : Packet) → IsIn b p → (place : Place) → IsListed new m.sets.items p place ↔ ((has old incoming p ≡ true) × IsMet chains p state place)
  pub there : m.returned < length new
  pub returned : (p : Packet) → IsIn b p → (has new m.returned p ≡ true) ↔ ((has old incoming p ≡ true) × Gives (matches p state) chains (rules_of chains 1) None)
