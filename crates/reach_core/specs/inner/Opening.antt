-- Hosts that are reached only with one more flow.
use Rattle.std.specs.Prelude.{ℕ, List}
use Rattle.flow_set.specs.declared.flow.Flow.{Flow}
use Rattle.flow_set.specs.FlowSet.{with_flow}
use Rattle.reach_core.specs.Walks.{Reaches}

-- Host i reaches j along the flows of e and f, but not along those of e only.
abbrev pub ReachesOnlyWith : Flow → List Flow → ℕ → ℕ → Type 0
ReachesOnlyWith f e i j = Reaches (with_flow e f) i j × (Reaches e i j → ⊥)
