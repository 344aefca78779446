-- Conditions that are downward closed, and conditions that are edge-wise.
use Rattle.std.specs.Prelude.{ℕ, ◌↔◌, List, [], ◌∷◌, IsTrue}
use Rattle.flow_set.specs.declared.flow.Flow.{Flow}
use Rattle.flow_set.specs.FlowSet.{has, IsSubset}
use Rattle.flow_set.specs.inner.FlowSetView.{IsFlowSet}

-- A condition is downward closed if it holds for every subset of a set between n hosts for which it holds.
abbrev pub IsDownwardClosed : ℕ → (List Flow → Type 0) → Type 0
IsDownwardClosed n Holds = (e s : List Flow) → IsFlowSet n e → IsSubset s e → Holds e → Holds s

-- The condition holds for each single flow of e.
abbrev pub HoldsOfEach : (List Flow → Type 0) → List Flow → Type 0
HoldsOfEach Holds e = (f : Flow) → IsTrue (has e f) → Holds (f ∷ [])

-- A condition is edge-wise if it holds for a set between n hosts if and only if it holds for each of its flows
-- individually.
abbrev pub IsEdgeWise : ℕ → (List Flow → Type 0) → Type 0
IsEdgeWise n Holds = (e : List Flow) → IsFlowSet n e → Holds e ↔ HoldsOfEach Holds e
