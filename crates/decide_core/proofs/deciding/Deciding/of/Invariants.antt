use Rattle.std.proofs.Common.{◌≡◌, IsTrue, Option, take}
use Rattle.host_net.specs.declared.packet.Packet.{Packet}
use Rattle.ipt_rules.specs.declared.marks.Place.{Place}
use Rattle.rules_space.specs.RulesView.{rules_of}
use Rattle.decide_core.specs.Deciders.{DecidesOne, IsInOne}
use Rattle.decide_core.specs.inner.Deciding.{CountsAmong, IsKnown, is_noted}
use Rattle.decide_core.proofs.deciding.Deciding.of.Given as goal

abbrev pub invariant-loop-within : goal.invariant-loop-within
invariant-loop-within l = record {
  rules : l.deciding.rules ≡ rules_of l.text;
  passing : l.deciding.passing ≡ l.passing;
  known : (p : Packet) → IsInOne (take l.within-index l.boxes) p → IsKnown l.deciding p;
  only : (decider : Option Place) → IsTrue (is_noted l.deciding decider)
      → DecidesOne l.deciding.rules (CountsAmong l.deciding (IsInOne l.boxes)) decider;
}
