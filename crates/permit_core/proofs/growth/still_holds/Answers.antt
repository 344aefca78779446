use Rattle.std.proofs.Common.{sym, ◌∙◌}
use Rattle.permit_core.proofs.GrownLaws.{edge_wise-IsExtended}
use Rattle.permit_core.proofs.growth.still_holds.Goals as goal

-- An edge-wise invariant holds for the set if and only if it holds for the new flow.
pub returns-then-edge_wise : goal.returns-then-edge_wise
returns-then-edge_wise g c =
    let inv = c.args.inv.now in
    let right = g.met.I.Invariant.mark_is_right inv (sym c.edge_wise.ensures ∙ c.if-edge_wise.true) in
    let same =
    edge_wise-IsExtended (g.I.Invariant.size_of inv) (g.I.Invariant.holds_on inv) c.args.set.now.flows c.args.added right c.requires.grown in
    (λ answer. same.0 (c.admits.ensures.0 answer), λ holds. c.admits.ensures.1 (same.1 holds))
