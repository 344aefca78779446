-- The orders before `order` are written.
use Rattle.std.proofs.Common.{◌≡◌, ◌≤◌, take}
use Rattle.std.specs.Io.KnownBytes.{append_known}
use Rattle.load_core.specs.Words.{lines_of}
use Rattle.load_core.proofs.line.put_orders.Given as goal

abbrev pub invariant-loop-order : goal.invariant-loop-order
invariant-loop-order g l = record {
  taken : g.O.Sink.held l.sink ≡ append_known (g.O.Sink.held l.fn.sink) (lines_of (take l.order-index l.orders));
  faults_monotone : g.O.Sink.faults l.fn.sink ≤ g.O.Sink.faults l.sink;
}
