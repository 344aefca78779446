use Rattle.std.proofs.Common.{take}
use Rattle.permit_core.specs.Policy.{AllHold}
use Rattle.permit_core.proofs.denial.first_failing.Given as goal

-- The invariants so far hold.
abbrev pub invariant-loop-number : goal.invariant-loop-number
invariant-loop-number g l = AllHold g.I.Invariant.holds_on (take l.number l.invs) l.e.flows
