use Rattle.std.proofs.Common.{◌≤◌, ◌-◌, ◌+◌, ◌*◌, length, take}
use Rattle.std.specs.List.{All}
use Rattle.packet_set.specs.Sets.{Keeps}
use Rattle.rules_set.specs.inner.Effects.{IsEffect}
use Rattle.rules_set.specs.inner.Known.{AreKnown, KnowsMore, LeadsToKnown}
use Rattle.rules_set.proofs.known.+learn.Given as goal

abbrev pub decreases-learn : goal.decreases-learn
decreases-learn l = 3 * l.depth

abbrev pub decreases-effect_in_order : goal.decreases-effect_in_order
decreases-effect_in_order l = 3 * l.depth + 2

abbrev pub decreases-learn_targets : goal.decreases-learn_targets
decreases-learn_targets l = 3 * l.depth + 1

abbrev pub invariant-effect_in_order-loop-done : goal.invariant-effect_in_order-loop-done
invariant-effect_in_order-loop-done l = record {
  within : l.done ≤ length l.rules;
  keeps : Keeps l.fn.diagrams l.diagrams;
  known : AreKnown l.diagrams l.traversal.rules.now l.traversal.state l.traversal.within l.known;
  more : KnowsMore l.fn.known l.known;
  effect : IsEffect l.diagrams l.traversal.rules.now l.traversal.state l.traversal.within (take l.done l.rules) l.effect;
}

abbrev pub decreases-effect_in_order-loop-done : goal.decreases-effect_in_order-loop-done
decreases-effect_in_order-loop-done l = length l.rules - l.done

abbrev pub invariant-learn_targets-loop-rule : goal.invariant-learn_targets-loop-rule
invariant-learn_targets-loop-rule l = record {
  keeps : Keeps l.fn.diagrams l.diagrams;
  known : AreKnown l.diagrams l.traversal.rules.now l.traversal.state l.traversal.within l.known;
  more : KnowsMore l.fn.known l.known;
  jumps : All (LeadsToKnown l.known) (take l.rule-index l.rules);
}
