use Rattle.std.proofs.Common.{◌-◌}
use Rattle.std.specs.FinSet as set
use Rattle.flow_set.specs.inner.HostSet.{row_of}
use Rattle.reach_core.proofs.Widened.{AreDone}
use Rattle.reach_core.proofs.stepped.UndoableRows.union_into.Given as goal

abbrev pub invariant-loop-host : goal.invariant-loop-host
invariant-loop-host l =
    let old = l.fn.self.rows in
    record {
      rows : AreDone old l.self.rows (λ i. set.union (row_of old i) l.by) l.hosts l.from;
      before : AreDone l.fn.self.before l.self.before (row_of old) l.hosts l.from;
    }

abbrev pub decreases-loop-host : goal.decreases-loop-host
decreases-loop-host l = 256 - l.from
