-- The first `done` bytes of the piece are written.
use Rattle.std.proofs.Common.{◌≡◌, ◌≤◌, ◌-◌, length, take}
use Rattle.std.specs.Io.KnownBytes.{append_known}
use Rattle.edge_io.specs.Failures.{CountsOnlyFailures}
use Rattle.edge_io.proofs.put.put_all.Given as goal

abbrev pub invariant-loop-done : goal.invariant-loop-done
invariant-loop-done g l = record {
  within : l.done ≤ length l.piece;
  taken : g.O.Sink.held l.sink ≡ append_known (g.O.Sink.held l.fn.sink) (take l.done l.piece);
  faults_monotone : g.O.Sink.faults l.fn.sink ≤ g.O.Sink.faults l.sink;
  no_fault : CountsOnlyFailures g.O.Sink.faults g.O.Sink.write_gives → g.O.Sink.faults l.sink ≡ g.O.Sink.faults l.fn.sink;
}

abbrev pub decreases-loop-done : goal.decreases-loop-done
decreases-loop-done g l = length l.piece - l.done
