-- The model of the code's private type of statuses, and the statuses that are valid for a number of invariants.
use Rattle.std.specs.Prelude.{◌<◌, ℕ}
use Rattle.report_core.specs.PolicyReport as meant
use Rattle.report_core.specs.declared.flow_status.FlowStatus.{FlowStatus}
use Rattle.report_core.specs.declared.flow_status.FlowStatus.TheVariants.{Answered, Allowed, NotAsked, Denied}

abbrev pub ruling_view : FlowStatus → meant.FlowStatus
ruling_view Answered = meant.Answered
ruling_view Allowed = meant.Allowed
ruling_view NotAsked = meant.NotAsked
ruling_view (Denied number) = meant.Denied number

-- The number of a denying invariant is below the count.
abbrev pub IsWithin : ℕ → meant.FlowStatus → Type 0
IsWithin count (meant.Denied number) = number < count
IsWithin count _ = Unit {0}
