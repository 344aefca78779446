use Rattle.std.proofs.Common.{◌&&◌, [], ◌∷◌, take}
use Rattle.permit_core.specs.inner.Trials.{ChosenHold}
use Rattle.permit_core.proofs.chosen.chosen_admit.Given as goal

-- The chosen edge-wise invariants so far admit the flow.
abbrev pub invariant-loop-inv : goal.invariant-loop-inv
invariant-loop-inv g l =
    ChosenHold (λ inv. g.C.Choice.chosen l.choice inv && g.I.Invariant.edge_mark inv) g.I.Invariant.holds_on
    (take l.inv-index l.invs) (l.f ∷ [])
