-- Flow sets that grow in steps: each step inserts one flow, and the last step can be undone.
use Rattle.std.specs.Prelude.{ℕ, List, Option, Some, None}
use Rattle.flow_set.specs.declared.flow.Flow.{Flow}
use Rattle.flow_set.specs.FlowSet.{SetOfFlows, with_flow}

-- The number of hosts, the flows in order, and the flows before the last step unless it was undone or committed.
pub record UndoableFlows : Type 0 where
  pub size : ℕ
  pub flows : List Flow
  pub before_step : Option (List Flow)

-- A set before any step.
abbrev pub untried : SetOfFlows → UndoableFlows
untried e = record { size = e.size; flows = e.flows; before_step = None }

-- The set after one more step.
abbrev pub stepped : UndoableFlows → Flow → UndoableFlows
stepped t f = record { size = t.size; flows = with_flow t.flows f; before_step = Some t.flows }

-- The flows before the last step; the current flows if there is no step to undo.
abbrev pub flows_before_step : Option (List Flow) → List Flow → List Flow
flows_before_step (Some before) now = before
flows_before_step None now = now

-- The set after the last step is undone.
abbrev pub undone : UndoableFlows → UndoableFlows
undone t = record { size = t.size; flows = flows_before_step t.before_step t.flows; before_step = None }
