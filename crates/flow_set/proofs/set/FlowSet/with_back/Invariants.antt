use Rattle.std.proofs.Common.{◌≡◌, ◌++◌}
use Rattle.flow_set.specs.FlowSet.{with_back}
use Rattle.flow_set.proofs.set.FlowSet.with_back.Given as goal

abbrev pub invariant-loop-f : goal.invariant-loop-f
invariant-loop-f l = record {
  size : l.all.size ≡ l.self.size;
  flows : l.all.flows ≡ with_back l.self.flows l.yielded;
  walk : l.yielded ++ l.f-iterator ≡ l.s.flows;
}
