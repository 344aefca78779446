use Rattle.std.proofs.Common.{◌≡◌, ◌≤◌, ◌*◌, length}
use Rattle.flow_set.specs.inner.BitRows.{rows_flows}
use Rattle.flow_set.proofs.set.FlowSet.len.Given as goal

-- The number of flows of the rows so far.
abbrev pub invariant-loop-row : goal.invariant-loop-row
invariant-loop-row l = record {
  counted : l.total ≡ length (rows_flows l.row-items l.self.size l.row-index);
  small : l.total ≤ l.row-index * 65536;
}
