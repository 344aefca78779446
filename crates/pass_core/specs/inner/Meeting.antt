-- Marks on the rules that packets meet. Internal: callers use `Dead`.
use Rattle.std.specs.Prelude.{◌≡◌, ◌⊎◌, ◌<◌, Bool, true, false, IsTrue, List, length}
use Rattle.host_net.specs.declared.packet.Packet.{Packet}
use Rattle.host_net.specs.declared.packet.CtState.{CtState}
use Rattle.header_space.specs.declared.packet_box.PacketBox.{PacketBox}
use Rattle.header_space.specs.Boxes.{IsIn, every_packet}
use Rattle.ipt_rules.specs.declared.marks.Place.{Place}
use Rattle.ipt_rules.specs.Chain.{Chain}
use Rattle.ipt_rules.specs.Marks.{is_marked}
use Rattle.ipt_rules.specs.Meets.{IsMet}
use Rattle.packet_set.specs.Nodes.{has}
use Rattle.packet_set.specs.declared.node.Node.{Node}
use Rattle.rules_set.specs.declared.met.MetSet.{MetSet}
use Rattle.pass_core.specs.Dead.{HasForwardRule}

-- Chains, with marks on the rules that some packets meet.
pub record MetRules : Type 0 where
  pub chains : List Chain
  pub marks : List (List Bool)

-- Each rule that the packet meets, in any state, is marked.
abbrev pub AreMarked : MetRules → Packet → Type 0
AreMarked m p = (state : CtState) (place : Place) → IsMet m.chains p state place → IsTrue (is_marked m.marks place)

-- Each rule of FORWARD and of user chains that the packet meets, in any state, is marked.
abbrev pub AreForwardMarked : MetRules → Packet → Type 0
AreForwardMarked m p =
    (state : CtState) (place : Place) → HasForwardRule m.chains place → IsMet m.chains p state place → IsTrue (is_marked m.marks place)

-- Some packet of the box meets the rule at the place, in some state.
pub record IsMetWithin (chains : List Chain) (b : PacketBox) (place : Place) : Type 0 where
  pub packet : Packet
  pub inside : IsIn b packet
  pub state : CtState
  pub met : IsMet chains packet state place

-- The new marks include the old marks, on the same chains. Each additional mark is on a rule that some packet of the box meets.
pub record MarksMore (b : PacketBox) (old new : MetRules) : Type 0 where
  pub chains : new.chains ≡ old.chains
  pub kept : (place : Place) → IsTrue (is_marked old.marks place) → IsTrue (is_marked new.marks place)
  pub only : (place : Place) → IsTrue (is_marked new.marks place) → IsTrue (is_marked old.marks place) ⊎ IsMetWithin old.chains b place

-- The place has an unmarked rule of FORWARD or of a user chain.
abbrev pub IsUnmarked : List Chain → List (List Bool) → Place → Type 0
IsUnmarked chains marks place = HasForwardRule chains place × (is_marked marks place ≡ false)

-- The set exists, and each of its packets meets the rule at its place in some state.
pub record IsSoundSet (chains : List Chain) (nodes : List Node) (m : MetSet) : Type 0 where
  pub there : m.set < length nodes
  pub met : (p : Packet) → IsIn every_packet p → has nodes m.set p ≡ true → (state : CtState) × IsMet chains p state m.place
