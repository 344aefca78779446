use Rattle.std.proofs.Common.{◌≡◌, ◌++◌}
use Rattle.std.specs.Prelude.{IsFalse}
use Rattle.emit_core.specs.PortRanges.{has_range}
use Rattle.emit_core.proofs.SearchSteps.{HoldsOfEach}
use Rattle.emit_core.proofs.ranges.first_range.Given as goal

abbrev pub invariant-loop-flow : goal.invariant-loop-flow
invariant-loop-flow l = record {
  walk : l.yielded ++ l.flow-iterator ≡ l.policy.permitted;
  none : HoldsOfEach (λ g. IsFalse (has_range l.services g)) l.yielded;
}
