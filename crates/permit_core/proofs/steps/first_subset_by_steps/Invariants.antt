use Rattle.std.proofs.Common.{◌≡◌, ◌++◌}
use Rattle.flow_set.specs.Conditions.{IsFirst}
use Rattle.permit_core.proofs.steps.first_subset_by_steps.Given as goal

-- The kept flows are the first subset of the flows so far, and the state has processed them.
abbrev pub invariant-loop-f : goal.invariant-loop-f
invariant-loop-f g l = record {
  size : l.kept.size ≡ l.all.size;
  walk : l.yielded ++ l.f-iterator ≡ l.all.flows;
  first : IsFirst (g.C.SteppedCondition.meets_on l.condition) l.yielded l.kept.flows;
  come : g.C.SteppedCondition.has_come_to l.condition l.state l.kept.flows;
}
