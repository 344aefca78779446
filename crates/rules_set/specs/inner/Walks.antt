-- Walks of sets of packets through rules. Not visible to callers.
use Rattle.std.specs.Prelude.{◌≡◌, ◌⊎◌, ◌↔◌, ℕ, ◌+◌, ◌<◌, Bool, true, false, List, ◌∷◌, drop, length, None}
use Rattle.host_net.specs.declared.packet.Packet.{Packet}
use Rattle.host_net.specs.declared.packet.CtState.{CtState}
use Rattle.header_space.specs.declared.packet_box.PacketBox.{PacketBox}
use Rattle.header_space.specs.Boxes.{IsIn}
use Rattle.ipt_rules.specs.declared.marks.Place.{Place}
use Rattle.ipt_rules.specs.declared.rule.Rule.{Rule}
use Rattle.ipt_rules.specs.declared.rule.Target.{Target}
use Rattle.ipt_rules.specs.Chain.{Chain, rules_of}
use Rattle.ipt_rules.specs.Matching.{matches}
use Rattle.ipt_rules.specs.Meets.{Meets, MeetsFrom}
use Rattle.ipt_rules.specs.Semantics.{Continues, Ends, Gives, JumpsTo, RuleEffect, step_of}
use Rattle.packet_set.specs.declared.node.Node.{Node}
use Rattle.packet_set.specs.Nodes.{has}
use Rattle.rules_set.specs.declared.met.Flow.{Flow}
use Rattle.rules_set.specs.declared.met.MetSet.{MetSet}
use Rattle.rules_set.specs.Meeting.{IsListed}

-- The sets of the flow exist.
pub record AreFlowSets (nodes : List Node) (f : Flow) : Type 0 where
  pub left : f.left < length nodes
  pub returned : f.returned < length nodes

-- ---- the step of a rule that matches

-- A packet continues after the step.
abbrev pub Passes : (Rule → Bool) → List Chain → RuleEffect → Type 0
Passes fits chains Continues = Unit {0}
Passes fits chains (Ends o) = ⊥
Passes fits chains (JumpsTo c) = Gives fits chains (rules_of chains c) None

-- A packet meets the rule at the place in the chain that the step enters.
abbrev pub MeetsInside : (Rule → Bool) → List Chain → Place → RuleEffect → Type 0
MeetsInside fits chains place Continues = ⊥
MeetsInside fits chains place (Ends o) = ⊥
MeetsInside fits chains place (JumpsTo c) = Meets fits chains c place

-- The flow after a rule with the target, by the packets that meet the rule.
pub record IsPassed (old new : List Node) (chains : List Chain) (state : CtState) (b : PacketBox) (target : Target) (met : ℕ) (before : Flow)
    (old_sets new_sets : List MetSet) (after : Flow) : Type 0 where
  pub sets : AreFlowSets new after
  pub left : (p : Packet) → IsIn b p → (has new after.left p ≡ true)
      ↔ ((has old before.left p ≡ true) × ((has old met p ≡ false) ⊎ Passes (matches p state) chains (step_of true target)))
  pub returned : (p : Packet) → IsIn b p → (has new after.returned p ≡ true)
      ↔ ((has old before.returned p ≡ true) ⊎ ((has old met p ≡ true) × (step_of true target ≡ Ends None)))
  pub listed : (p : Packet) → IsIn b p → (at : Place) → IsListed new new_sets p at
      ↔ (IsListed old old_sets p at ⊎ ((has old met p ≡ true) × MeetsInside (matches p state) chains at (step_of true target)))

-- ---- the rules that are left

-- The packet is in a set of the rule at the place, or is left and meets the rule among the rules of chain c from rule n on.
abbrev pub IsShown : List Node → List Chain → CtState → List MetSet → (left : ℕ) → Packet → Place → (c n : ℕ) → List Rule → Type 0
IsShown nodes chains state sets left p place c n rules =
    IsListed nodes sets p place ⊎ ((has nodes left p ≡ true) × MeetsFrom (matches p state) chains place c n rules)

-- The packet has returned, or is left and the rules return it.
abbrev pub ComesBack : List Node → List Chain → CtState → Flow → Packet → List Rule → Type 0
ComesBack nodes chains state f p rules = (has nodes f.returned p ≡ true) ⊎ ((has nodes f.left p ≡ true) × Gives (matches p state) chains rules None)

-- The flow after the rule at the place.
pub record IsStepped (old new : List Node) (chains : List Chain) (state : CtState) (b : PacketBox) (place : Place) (r : Rule) (before : Flow)
    (old_sets new_sets : List MetSet) (after : Flow) : Type 0 where
  pub sets : AreFlowSets new after
  pub met : (p : Packet) → IsIn b p → (at : Place) (rest : List Rule) → IsShown new chains state new_sets after.left p at place.chain (place.rule + 1) rest
      ↔ IsShown old chains state old_sets before.left p at place.chain place.rule (r ∷ rest)
  pub back : (p : Packet) → IsIn b p → (rest : List Rule) → ComesBack new chains state after p rest ↔ ComesBack old chains state before p (r ∷ rest)

-- The packets of the set `incoming` have traversed chain c: a packet is in a set of a rule if it was before, or if it is one of these and meets
-- the rule. The set `returns` has those that the chain returns.
pub record IsWalked (old new : List Node) (chains : List Chain) (state : CtState) (b : PacketBox) (c incoming : ℕ) (old_sets new_sets : List MetSet)
    (returns : ℕ) : Type 0 where
  pub there : returns < length new
  pub met : (p : Packet) → IsIn b p → (at : Place) → IsListed new new_sets p at
      ↔ (IsListed old old_sets p at ⊎ ((has old incoming p ≡ true) × Meets (matches p state) chains c at))
  pub back : (p : Packet) → IsIn b p → (has new returns p ≡ true) ↔ ((has old incoming p ≡ true) × Gives (matches p state) chains (rules_of chains c) None)

-- The packets of the set `incoming` have traversed the rules of chain c before rule n.
pub record IsUnderWay (old new : List Node) (chains : List Chain) (state : CtState) (b : PacketBox) (c incoming n : ℕ) (old_sets new_sets : List MetSet)
    (f : Flow) : Type 0 where
  pub sets : AreFlowSets new f
  pub met : (p : Packet) → IsIn b p → (at : Place) → IsShown new chains state new_sets f.left p at c n (drop n (rules_of chains c))
      ↔ (IsListed old old_sets p at ⊎ ((has old incoming p ≡ true) × Meets (matches p state) chains c at))
  pub back : (p : Packet) → IsIn b p → ComesBack new chains state f p (drop n (rules_of chains c))
      ↔ ((has old incoming p ≡ true) × Gives (matches p state) chains (rules_of chains c) None)
