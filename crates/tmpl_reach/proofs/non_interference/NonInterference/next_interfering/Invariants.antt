use Rattle.std.proofs.Common.{◌-◌, ◌≤◌}
use Rattle.tmpl_reach.specs.inner.Interferences.{NoneInterferes}
use Rattle.tmpl_reach.proofs.non_interference.NonInterference.next_interfering.Given as goal

abbrev pub invariant-loop-host : goal.invariant-loop-host
invariant-loop-host l = record {
  late : l.fn.from ≤ l.from;
  none : NoneInterferes l.self l.hosts l.fn.from l.from;
}

abbrev pub decreases-loop-host : goal.decreases-loop-host
decreases-loop-host l = 256 - l.from
