-- Marks on the rules that decide packets. Internal: callers use `Deciders`.
use Rattle.std.specs.Prelude.{◌≡◌, ◌⊎◌, Bool, true, false, IsTrue, List, Option, Some, None}
use Rattle.host_net.specs.declared.packet.Packet.{Packet}
use Rattle.host_net.specs.declared.packet.CtState.TheVariants.{New}
use Rattle.header_space.specs.declared.packet_box.PacketBox.{PacketBox}
use Rattle.header_space.specs.Boxes.{IsIn}
use Rattle.ipt_rules.specs.declared.marks.Place.{Place}
use Rattle.ipt_rules.specs.Marks.{is_marked}
use Rattle.ipt_rules.specs.inner.Marking.{with_mark}
use Rattle.rules_space.specs.Rules.{AnyRules, filter_of}
use Rattle.decide_core.specs.Deciders.{DecidesOne, IsDecider}

-- Rules, with marks on the rules that decide some packets: the packets that pass if `passing` is true, else any packets.
pub record Deciding : Type 0 where
  pub rules : AnyRules
  pub passing : Bool
  pub marks : List (List Bool)
  pub by_default : Bool

-- The deciders of the packet have to be marked: it passes, or the deciders of all packets have to be marked.
abbrev pub Counts : AnyRules → Bool → Packet → Type 0
Counts rules true p = filter_of rules New p true
Counts rules false p = Unit {0}

-- The decider is marked: the rule at the place, or the default if there is no place.
abbrev pub is_noted : Deciding → Option Place → Bool
is_noted d None = d.by_default
is_noted d (Some place) = is_marked d.marks place

-- The marks with one more mark: on the rule at the place, or on the default if there is no place.
abbrev pub noted : Deciding → Option Place → Deciding
noted d None = record d { by_default = true }
noted d (Some place) = record d { marks = with_mark d.marks place }

-- If the deciders of the packet have to be marked, they are.
abbrev pub IsKnown : Deciding → Packet → Type 0
IsKnown d p = Counts d.rules d.passing p → (decider : Option Place) → IsDecider d.rules p decider → IsTrue (is_noted d decider)

-- The packet is one of the packets `Among`, and its deciders have to be marked.
abbrev pub CountsAmong : Deciding → (Packet → Type 0) → Packet → Type 0
CountsAmong d Among p = Among p × Counts d.rules d.passing p

-- The new marks include the old marks. Each additional mark is on a decider of a packet `Among` whose deciders have to be marked.
pub record NotesMore (Among : Packet → Type 0) (old new : Deciding) : Type 0 where
  pub rules : new.rules ≡ old.rules
  pub passing : new.passing ≡ old.passing
  pub kept : (decider : Option Place) → IsTrue (is_noted old decider) → IsTrue (is_noted new decider)
  pub only : (decider : Option Place) → IsTrue (is_noted new decider) → IsTrue (is_noted old decider) ⊎ DecidesOne old.rules (CountsAmong old Among) decider

abbrev pub NotesMoreIn : PacketBox → Deciding → Deciding → Type 0
NotesMoreIn b = NotesMore (IsIn b)

-- The marked deciders are exactly the deciders of the packets `Among` whose deciders have to be marked.
pub record HasNoted (Among : Packet → Type 0) (d : Deciding) : Type 0 where
  pub known : (p : Packet) → Among p → IsKnown d p
  pub only : (decider : Option Place) → IsTrue (is_noted d decider) → DecidesOne d.rules (CountsAmong d Among) decider
