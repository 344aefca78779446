use Rattle.std.proofs.Common.{sym, ◌∙◌, subst}
use Rattle.packet_set.specs.Nodes.{AreNodes}
use Rattle.packet_set.proofs.HasLaws.{node_by}
use Rattle.packet_set.proofs.BranchLaws.{both_branches, one_branch, rank_same}
use Rattle.packet_set.proofs.diagrams.Diagrams.branches.Goals as goal

pub returns-then-node-test-2-clause-same : goal.returns-then-node-test-2-clause-same
returns-then-node-test-2-clause-same c =
    let nodes = c.args.self.now in
    both_branches nodes c.args.set c.index-node.result.now c.args.test (subst AreNodes c.self.view_is c.self.invariant.nodes_too) c.if-set-lt2.false c.requires
    (node_by nodes c.self.inside.nodes.items c.args.set c.index-node.result.now c.self.view_is c.requires c.index-node.ensures)
    (rank_same c.index-node.result.now.field c.args.test.field (sym c.rank.ensures ∙ (c.if-rank.false ∙ c.rank-2.ensures))) c.if-node-test-2.true

pub returns-clause-same : goal.returns-clause-same
returns-clause-same c =
    let nodes = c.args.self.now in
    one_branch nodes c.args.set c.index-node.result.now c.args.test (subst AreNodes c.self.view_is c.self.invariant.nodes_too) c.if-set-lt2.false c.requires
    (node_by nodes c.self.inside.nodes.items c.args.set c.index-node.result.now c.self.view_is c.requires c.index-node.ensures)
    (rank_same c.index-node.result.now.field c.args.test.field (sym c.rank.ensures ∙ (c.if-rank.false ∙ c.rank-2.ensures))) c.if-node-test.false
