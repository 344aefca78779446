use Rattle.std.proofs.Common.{[], ◌∷◌, take}
use Rattle.net_core.specs.Policies.{holds_on}
use Rattle.permit_core.specs.Policy.{AllHold}
use Rattle.net_core.proofs.steps.is_admitted.Given as goal

-- The invariants so far admit the flow.
abbrev pub invariant-loop-invariant : goal.invariant-loop-invariant
invariant-loop-invariant l = AllHold holds_on (take l.invariant-index l.description.invariants) (l.flow ∷ [])
