use Rattle.std.proofs.Common.{◌≡◌, length, take}
use Rattle.flow_set.specs.FlowSet.{has}
use Rattle.flow_set.specs.declared.flow.Flow.{Flow}
use Rattle.changes_json.specs.Weakening.{flows_where}
use Rattle.changes_json.specs.inner.Wanting.{is_wanted}
use Rattle.changes_json.proofs.weakening.flows_where.Given as goal

-- The set has the flows of the findings so far.
abbrev pub invariant-loop-finding : goal.invariant-loop-finding
invariant-loop-finding l = record {
  size : l.set.size ≡ length l.hosts;
  flows : (f : Flow) → has l.set.flows f ≡ has (flows_where (is_wanted l.wanted) (take l.finding-index l.found)) f;
}
