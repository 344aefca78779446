use Rattle.std.proofs.Common.{[], ◌∷◌, take}
use Rattle.net_core.specs.Policies.{edge_mark, holds_on, strategy_of}
use Rattle.state_core.specs.Stateful.{StrictHold}
use Rattle.net_core.proofs.steps.is_answered.Given as goal

-- The strict invariants so far admit the answer.
abbrev pub invariant-loop-invariant : goal.invariant-loop-invariant
invariant-loop-invariant l = StrictHold strategy_of edge_mark holds_on (take l.invariant-index l.description.invariants) (l.answer ∷ [])
