use Rattle.std.proofs.Common.{All, take}
use Rattle.std.specs.Prelude.{IsTrue}
use Rattle.net_core.specs.Policies.{edge_mark}
use Rattle.net_core.proofs.steps.is_edge_wise_network.Given as goal

-- The invariants so far are edge-wise.
abbrev pub invariant-loop-invariant : goal.invariant-loop-invariant
invariant-loop-invariant l = All (λ inv. IsTrue (edge_mark inv)) (take l.invariant-index l.description.invariants)
