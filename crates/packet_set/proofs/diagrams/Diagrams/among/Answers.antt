use Rattle.std.proofs.Common.{◌≤◌, Bool, ap, arith, sym, ◌∙◌, length, subst, List}
use Rattle.std.specs.Prelude.{◌&&◌}
use Rattle.packet_set.specs.declared.node.Node.{Node}
use Rattle.packet_set.specs.Nodes.{has, number_of}
use Rattle.packet_set.proofs.HasLaws.{has_empty}
use Rattle.packet_set.proofs.KeptLaws.{keeps_self}
use Rattle.packet_set.proofs.RangeLaws.{among_none}
use Rattle.packet_set.proofs.diagrams.Diagrams.among.Goals as goal

pub loop-left-init : goal.loop-left-init
loop-left-init c =
    let nodes = c.args.self.now in
    let some : 2 ≤ length nodes = subst (λ (xs : List Node). 2 ≤ length xs) c.self.view_is c.self.invariant.nodes_too.some in
    record {
      within = omega arith;
      keeps = keeps_self nodes;
      is = record {
        there = omega (arith, some);
        exact = λ p. has_empty nodes p ∙ sym (ap (λ (b : Bool). b && has nodes c.args.set p) (among_none c.args.ranges.now (number_of c.args.field p)));
      };
    }
