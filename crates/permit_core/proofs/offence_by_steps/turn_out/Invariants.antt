use Rattle.std.proofs.Common.{◌≡◌, ◌++◌}
use Rattle.flow_set.specs.declared.flow.Flow.{Flow}
use Rattle.flow_set.specs.FlowSet.{has, IsOrdered}
use Rattle.permit_core.proofs.Turning.{turned}
use Rattle.permit_core.proofs.offence_by_steps.turn_out.Given as goal

-- The flows so far are complemented: flows of the set are removed, and the others are inserted.
abbrev pub invariant-loop-f : goal.invariant-loop-f
invariant-loop-f l = record {
  walk : l.yielded ++ l.f-iterator ≡ l.all.flows;
  size : l.set.size ≡ l.initial.set.size;
  ordered : IsOrdered l.set.flows;
  flows : (g : Flow) → has l.set.flows g ≡ turned (has l.yielded g) (has l.initial.set.flows g);
}
