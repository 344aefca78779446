use Rattle.std.proofs.Common.{get_or, subst}
use Rattle.flow_set.specs.inner.Downward.{IsDownwardClosed}
use Rattle.permit_core.proofs.PolicyLaws.{marked_edge_wise}
use Rattle.state_core.proofs.Refining.{StrictHold-downward, complies_found}
use Rattle.state_core.proofs.refinement.refine.Goals as goal

pub first_subset-requires-clause-downward : goal.first_subset-requires-clause-downward
first_subset-requires-clause-downward g c =
    let n = c.args.p.now.size in
    let inv = g.I.Invariant in
    let invs = c.args.invs.now in
    StrictHold-downward n inv.strategy_of inv.edge_mark inv.holds_on invs c.args.p.now.flows c.size.ensures.set
    (λ k d below. subst (λ m. IsDownwardClosed m (inv.holds_on (get_or invs k d))) (c.requires.sizes k d below) (g.met.I.Invariant.downward (get_or invs k d)))

pub returns-clause-complies : goal.returns-clause-complies
returns-clause-complies g c =
    let n = c.args.p.now.size in
    let inv = g.I.Invariant in
    let invs = c.args.invs.now in
    complies_found n inv.strategy_of inv.edge_mark inv.holds_on invs c.args.p.now.flows c.first_subset.result c.size.ensures.set
    (marked_edge_wise n inv.size_of inv.edge_mark inv.holds_on invs g.met.I.Invariant.mark_is_right c.requires.sizes)
    c.requires.permitted c.first_subset.ensures.first
