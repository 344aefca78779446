use Rattle.std.proofs.Common.{take}
use Rattle.permit_core.specs.inner.Trials.{ChosenHold}
use Rattle.permit_core.proofs.growth.chosen_still_hold.Given as goal

-- The chosen invariants so far hold.
abbrev pub invariant-loop-inv : goal.invariant-loop-inv
invariant-loop-inv g l = ChosenHold (g.C.Choice.chosen l.choice) g.I.Invariant.holds_on (take l.inv-index l.invs) l.set.flows
