-- The undo record of a flow set. No clause of a public call mentions it.
use Rattle.std.specs.Prelude.{ℕ, List, Option, Some, None}
use Rattle.flow_set.specs.declared.flow.Flow.{Flow}
use Rattle.flow_set.specs.Flow.{IsFlow}
use Rattle.flow_set.specs.FlowSet.{SetOfFlows}
use Rattle.flow_set.specs.inner.FlowSetView.{without_flow}
use Rattle.flow_set.specs.inner.Steps.{UndoableFlows}
use Rattle.flow_set.specs.declared.steps.UndoRecord.{UndoRecord}
use Rattle.flow_set.specs.declared.steps.UndoRecord.TheVariants.{Settled, Unchanged, Added}

-- The flows before the last step, computed from the current flows.
abbrev pub flows_before_last : UndoRecord → List Flow → Option (List Flow)
flows_before_last Settled fs = None
flows_before_last Unchanged fs = Some fs
flows_before_last (Added f) fs = Some (without_flow fs f)

-- The model of the current flows together with the undo record.
abbrev pub view_of : SetOfFlows → UndoRecord → UndoableFlows
view_of e last = record { size = e.size; flows = e.flows; before_step = flows_before_last last e.flows }

-- The flow of the last step is a flow between the hosts.
abbrev pub CanUndo : UndoRecord → ℕ → Type 0
CanUndo Settled n = Unit {0}
CanUndo Unchanged n = Unit {0}
CanUndo (Added f) n = IsFlow n f
