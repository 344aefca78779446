use Rattle.std.proofs.Common.{◌+◌, ◌*◌}
use Rattle.packet_set.specs.Sets.{Keeps}
use Rattle.rules_set.specs.Meeting.{AreSetsOfRules}
use Rattle.rules_set.specs.inner.Walks.{IsUnderWay}
use Rattle.rules_set.proofs.met.+walk.Given as goal

abbrev pub decreases-walk : goal.decreases-walk
decreases-walk l = 3 * l.depth

abbrev pub decreases-step : goal.decreases-step
decreases-step l = 3 * l.depth + 2

abbrev pub decreases-passed : goal.decreases-passed
decreases-passed l = 3 * l.depth + 1

abbrev pub invariant-walk-loop-number : goal.invariant-walk-loop-number
invariant-walk-loop-number l = record {
  keeps : Keeps l.fn.diagrams l.diagrams;
  sets : AreSetsOfRules l.diagrams l.entering.rules.now l.sets.items;
  way : IsUnderWay l.fn.diagrams l.diagrams l.entering.rules.now l.entering.state l.entering.within l.chain l.incoming l.number l.fn.sets.items l.sets.items l.flow;
}
