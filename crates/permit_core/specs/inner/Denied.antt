-- Flows that a permitted policy omits.
use Rattle.std.specs.Prelude.{List, IsTrue, IsFalse}
use Rattle.flow_set.specs.declared.flow.Flow.{Flow}
use Rattle.flow_set.specs.Conditions.{IsFirst}
use Rattle.flow_set.specs.FlowSet.{has}

-- Flow f is denied: it is one of the requested flows from which p was permitted, and p does not contain it.
pub record IsDenied (Holds : List Flow → Type 0) (p : List Flow) (f : Flow) : Type 0 where
  pub asked : List Flow
  pub permitted : IsFirst Holds asked p
  pub wanted : IsTrue (has asked f)
  pub left_out : IsFalse (has p f)
