use Rattle.std.proofs.Common.{◌≤◌, arith, length, subst, List}
use Rattle.packet_set.specs.declared.node.Node.{Node}
use Rattle.packet_set.proofs.HasLaws.{has_empty}
use Rattle.packet_set.proofs.diagrams.Diagrams.empty.Goals as goal

pub returns : goal.returns
returns c =
    let some : 2 ≤ length c.args.self.now = subst (λ (xs : List Node). 2 ≤ length xs) c.self.view_is c.self.invariant.nodes_too.some in
    record { there = omega (arith, some); exact = λ p. has_empty c.args.self.now p }
