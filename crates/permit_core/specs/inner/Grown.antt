-- The sets on which a pass tests a condition.
use Rattle.std.specs.Prelude.{◌≡◌, ℕ, List, IsFalse}
use Rattle.flow_set.specs.declared.flow.Flow.{Flow}
use Rattle.flow_set.specs.Flow.{IsFlow}
use Rattle.flow_set.specs.FlowSet.{has, with_flow}
use Rattle.flow_set.specs.inner.FlowSetView.{IsFlowSet}

-- fs is a set between n hosts that satisfied the condition, with one more flow.
pub record IsExtended (n : ℕ) (Holds : List Flow → Type 0) (fs : List Flow) (added : Flow) : Type 0 where
  pub old : List Flow
  pub set : IsFlowSet n old
  pub held : Holds old
  pub flow : IsFlow n added
  pub absent : IsFalse (has old added)
  pub grown : fs ≡ with_flow old added

-- f is one more flow for a set between n hosts.
pub record IsNew (n : ℕ) (kept : List Flow) (f : Flow) : Type 0 where
  pub set : IsFlowSet n kept
  pub flow : IsFlow n f
  pub absent : IsFalse (has kept f)
