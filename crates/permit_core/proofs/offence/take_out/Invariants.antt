use Rattle.std.proofs.Common.{◌≡◌, ◌++◌}
use Rattle.flow_set.specs.FlowSet.{without}
use Rattle.permit_core.proofs.offence.take_out.Given as goal

-- The flows so far are removed.
abbrev pub invariant-loop-f : goal.invariant-loop-f
invariant-loop-f l = record {
  walk : l.yielded ++ l.f-iterator ≡ l.others.flows;
  size : l.set.size ≡ l.initial.set.size;
  flows : l.set.flows ≡ without l.initial.set.flows l.yielded;
}
