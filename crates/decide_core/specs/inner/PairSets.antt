-- Deciders of new packets between two sets of addresses, by sets of packets. Internal: callers use `Deciders`.
use Rattle.std.specs.Prelude.{◌≡◌, ◌⊎◌, ◌↔◌, ℕ, ◌<◌, true, IsTrue, List, [], ◌∷◌, length, Option, Some, None}
use Rattle.std.specs.List.{All}
use Rattle.host_net.specs.Packet.{IsPacket}
use Rattle.host_net.specs.declared.packet.Packet.{Packet}
use Rattle.host_net.specs.declared.packet.CtState.TheVariants.{New}
use Rattle.header_space.specs.Boxes.{IsIn}
use Rattle.header_space.specs.Owners.{GoesBetween, IsRange, LiesIn}
use Rattle.header_space.specs.declared.address_range.AddressRange.{AddressRange}
use Rattle.header_space.specs.declared.packet_box.PacketBox.{PacketBox}
use Rattle.ipt_rules.specs.Chain.{Chain, rules_of}
use Rattle.ipt_rules.specs.Matching.{matches}
use Rattle.ipt_rules.specs.Meets.{IsMet}
use Rattle.ipt_rules.specs.Semantics.{Gives, PassesChains}
use Rattle.ipt_rules.specs.declared.marks.Place.{Place}
use Rattle.packet_set.specs.Nodes.{has}
use Rattle.packet_set.specs.declared.node.Node.{Node}
use Rattle.rules_set.specs.Meeting.{AreSetsOfRules, IsListed}
use Rattle.rules_set.specs.declared.met.MetSet.{MetSet}
use Rattle.rules_set.specs.declared.met.MetSets.{MetSets}
use Rattle.rules_space.specs.Rules.{AnyRules, filter_of}
use Rattle.decide_core.specs.Deciders.{IsDecider, IsInOne}
use Rattle.decide_core.specs.declared.pair_sets.PairDeciders.{PairDeciders}
use Rattle.decide_core.specs.inner.Classifying.{HasRule}
use Rattle.decide_core.specs.inner.Deciding.{Deciding, is_noted}

-- A packet of one of the boxes is in the set.
abbrev pub HasAny : List Node → ℕ → List PacketBox → Type 0
HasAny nodes set boxes = (p : Packet) × IsInOne boxes p × (has nodes set p ≡ true)

-- ---- new packets between two sets of addresses that meet rules

-- The packet goes between the addresses, and passes as a packet of a new connection.
abbrev pub PassesBetween : AnyRules → (from to : List AddressRange) → Packet → Type 0
PassesBetween rules from to p = GoesBetween from to p × filter_of rules New p true

-- A packet of the box is in a set of a rule if and only if it goes between the addresses, passes and meets the rule. It is in the set
-- `returned` if and only if it goes between the addresses, passes, and no rule of FORWARD, chain 1, gives it a verdict. A packet passes only
-- once.
pub record AreMetBetween (chains : List Chain) (from to : List AddressRange) (b : PacketBox) (nodes : List Node) (m : MetSets) : Type 0 where
  pub sets : AreSetsOfRules nodes chains m.sets.items
  pub passing : List Node
  pub set : ℕ
  pub between : (p : Packet) → IsPacket p → has passing set p ≡ true → GoesBetween from to p
  pub passes : (p : Packet) → GoesBetween from to p → PassesChains chains New p (has passing set p)
  pub met : (p : Packet) → IsIn b p → (place : Place) → IsListed nodes m.sets.items p place ↔ ((has passing set p ≡ true) × IsMet chains p New place)
  pub there : m.returned < length nodes
  pub returned : (p : Packet) → IsIn b p → (has nodes m.returned p ≡ true) ↔ ((has passing set p ≡ true) × Gives (matches p New) chains (rules_of chains 1) None)

-- ---- deciders

-- The packet is in a set of the rule at the place, whose target is a verdict.
abbrev pub IsEnded : List Node → List MetSet → Packet → Place → Type 0
IsEnded nodes [] p place = ⊥
IsEnded nodes (m ∷ ms) p place = ((m.place ≡ place) × (m.ends ≡ true) × (has nodes m.set p ≡ true)) ⊎ IsEnded nodes ms p place

-- The packet is in a set of the decider: of the rule at the place, or of the packets that no rule decides.
abbrev pub IsDecidedBy : List Node → MetSets → Packet → Option Place → Type 0
IsDecidedBy nodes m p None = has nodes m.returned p ≡ true
IsDecidedBy nodes m p (Some place) = IsEnded nodes m.sets.items p place

-- The set exists, and if the target of its rule is a verdict, the place has a rule.
pub record IsSoundSet (rules : AnyRules) (nodes : List Node) (m : MetSet) : Type 0 where
  pub there : m.set < length nodes
  pub rule : m.ends ≡ true → HasRule rules m.place

-- The packet is from the range of sources to the range of destinations.
pub record IsInside (d : PairDeciders) (p : Packet) : Type 0 where
  pub packet : IsPacket p
  pub src : LiesIn d.source p.src
  pub dst : LiesIn d.target p.dst

-- The sets have the packets that pass between the addresses, by their deciders.
pub record ArePairDeciders (rules : AnyRules) (from to : List AddressRange) (d : PairDeciders) : Type 0 where
  pub source : IsRange d.source
  pub target : IsRange d.target
  pub sets : All (IsSoundSet rules d.diagrams) d.met.sets.items
  pub returned : d.met.returned < length d.diagrams
  pub covers : (p : Packet) → GoesBetween from to p → IsInside d p
  pub only : (p : Packet) (e : Option Place) → IsInside d p → IsDecidedBy d.diagrams d.met p e → PassesBetween rules from to p × IsDecider rules p e
  pub all : (p : Packet) (e : Option Place) → PassesBetween rules from to p → IsDecider rules p e → IsDecidedBy d.diagrams d.met p e

-- ---- marks

-- A packet of the boxes is in a set of the decider.
abbrev pub IsNotedBy : List Node → MetSets → List PacketBox → Option Place → Type 0
IsNotedBy nodes m boxes e = (p : Packet) × IsInOne boxes p × IsDecidedBy nodes m p e

-- The new marks are the old marks and the marks on the deciders `Added`.
pub record AddsNotes (Added : Option Place → Type 0) (old new : Deciding) : Type 0 where
  pub rules : new.rules ≡ old.rules
  pub passing : new.passing ≡ old.passing
  pub exact : (e : Option Place) → IsTrue (is_noted new e) ↔ (IsTrue (is_noted old e) ⊎ Added e)
