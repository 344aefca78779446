use Rattle.std.proofs.Common.{◌≤◌, drop, length}
use Rattle.std.specs.Prelude.{◌&&◌}
use Rattle.packet_set.specs.Nodes.{has, number_of}
use Rattle.packet_set.specs.Sets.{IsSet, Keeps, is_among}
use Rattle.packet_set.proofs.diagrams.Diagrams.among.Given as goal

abbrev pub invariant-loop-left : goal.invariant-loop-left
invariant-loop-left l = record {
  within : l.left ≤ length l.ranges;
  keeps : Keeps l.initial.self l.self;
  is : IsSet l.self l.found (λ p. is_among (drop l.left l.ranges) (number_of l.field p) && has l.initial.self l.set p);
}

abbrev pub decreases-loop-left : goal.decreases-loop-left
decreases-loop-left l = l.left
