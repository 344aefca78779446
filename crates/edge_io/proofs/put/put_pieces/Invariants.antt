-- The pieces before `piece` are written.
use Rattle.std.proofs.Common.{◌≡◌, ◌≤◌, take}
use Rattle.std.specs.Io.KnownBytes.{append_known}
use Rattle.edge_io.specs.Failures.{CountsOnlyFailures}
use Rattle.edge_io.specs.inner.Calls.{joined}
use Rattle.edge_io.proofs.put.put_pieces.Given as goal

abbrev pub invariant-loop-piece : goal.invariant-loop-piece
invariant-loop-piece g l = record {
  taken : g.O.Sink.held l.sink ≡ append_known (g.O.Sink.held l.fn.sink) (joined (take l.piece-index l.pieces));
  faults_monotone : g.O.Sink.faults l.fn.sink ≤ g.O.Sink.faults l.sink;
  no_fault : CountsOnlyFailures g.O.Sink.faults g.O.Sink.write_gives → g.O.Sink.faults l.sink ≡ g.O.Sink.faults l.fn.sink;
}
