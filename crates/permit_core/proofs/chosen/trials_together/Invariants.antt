use Rattle.std.proofs.Common.{◌&&◌, not, take}
use Rattle.permit_core.specs.inner.Tried.{ChosenTried}
use Rattle.permit_core.proofs.chosen.trials_together.Given as goal

-- The chosen invariants so far that are not edge-wise have trials.
abbrev pub invariant-loop-inv : goal.invariant-loop-inv
invariant-loop-inv g l =
    ChosenTried g.I.Stepwise.fits g.I.Tried.Trial.tried
    (λ inv. g.C.Choice.chosen l.choice inv && not (g.I.Invariant.edge_mark inv)) (take l.inv-index l.invs) l.trials.items l.e.flows
