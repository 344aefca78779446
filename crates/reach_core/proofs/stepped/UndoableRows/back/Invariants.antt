use Rattle.std.proofs.Common.{◌≡◌, ◌-◌}
use Rattle.flow_set.specs.inner.HostSet.{row_of}
use Rattle.reach_core.proofs.Widened.{AreDone}
use Rattle.reach_core.proofs.stepped.UndoableRows.back.Given as goal

abbrev pub invariant-loop-host : goal.invariant-loop-host
invariant-loop-host l =
    record {
      rows : AreDone l.fn.self.rows l.self.rows (row_of l.fn.self.before) l.changed l.from;
      before : l.self.before ≡ l.fn.self.before;
    }

abbrev pub decreases-loop-host : goal.decreases-loop-host
decreases-loop-host l = 256 - l.from
