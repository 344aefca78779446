use Rattle.std.proofs.Common.{subst}
use Rattle.packet_set.specs.Nodes.{AreNodes}
use Rattle.packet_set.proofs.BranchLaws.{known_there}
use Rattle.packet_set.proofs.diagrams.Diagrams.+combine.Goals as goal

pub returns-in-Some-clause-set : goal.returns-in-Some-clause-set
returns-in-Some-clause-set t c = record {
  there = known_there c.args.self.now c.args.left c.args.right c.in-Some.known (subst AreNodes c.self.view_is c.self.invariant.nodes_too) c.requires.left c.requires.right c.in-Some.ensures.within;
  exact = c.in-Some.ensures.exact c.args.self.now;
}
