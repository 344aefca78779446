use Rattle.permit_core.specs.Policy.{AllHold}
use Rattle.permit_core.proofs.PolicyLaws.{AllHold-edge_wise, marked_edge_wise}
use Rattle.permit_core.proofs.Found.{greatest_found}
use Rattle.permit_core.proofs.policy_by_steps.permit_by_steps.Goals as goal

pub returns-clause-greatest : goal.returns-clause-greatest
returns-clause-greatest g c marks =
    let n = c.args.asked.now.size in
    let inv = g.I.Invariant in
    let invs = c.args.invs.now in
    greatest_found n (AllHold inv.holds_on invs) c.args.asked.now.flows c.first_subset_by_steps.result c.size-size.ensures.set
    (AllHold-edge_wise n inv.holds_on invs (λ k d within.
    marked_edge_wise n inv.size_of inv.edge_mark inv.holds_on invs g.met.I.Invariant.mark_is_right c.requires k d within (marks k d within)))
    c.first_subset_by_steps.ensures.first
