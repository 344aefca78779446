use Rattle.std.proofs.Common.{◌≡◌, ◌++◌, ◌&&◌}
use Rattle.flow_set.specs.declared.flow.Flow.{Flow}
use Rattle.flow_set.specs.FlowSet.{has}
use Rattle.change_core.specs.inner.Listing.{is_new}
use Rattle.change_core.proofs.gaps.new_gaps.Given as goal

abbrev pub invariant-loop-flow : goal.invariant-loop-flow
invariant-loop-flow l = record {
  size : l.set.size ≡ l.gaps.size;
  members : (f : Flow) → has l.set.flows f ≡ (has l.yielded f && is_new l.old_gaps.flows l.rows.items f);
  walk : l.yielded ++ l.flow-iterator ≡ l.gaps.flows;
}
