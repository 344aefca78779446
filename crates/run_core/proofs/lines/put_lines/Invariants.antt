-- The written lines and those in the block are the lines before `i`.
use Rattle.std.proofs.Common.{◌≤◌, take}
use Rattle.run_core.specs.inner.Views.{rules_lines}
use Rattle.run_core.proofs.PutBlocks.{IsSofar}
use Rattle.run_core.proofs.lines.put_lines.Given as goal

abbrev pub invariant-loop-i : goal.invariant-loop-i
invariant-loop-i g l = record {
  sofar : IsSofar (g.O.Sink.held l.fn.sink) (g.O.Sink.held l.sink) (rules_lines l.rules) l.i (take l.filled l.block);
  fits : l.filled ≤ 8512;
  faults_monotone : g.O.Sink.faults l.fn.sink ≤ g.O.Sink.faults l.sink;
}
