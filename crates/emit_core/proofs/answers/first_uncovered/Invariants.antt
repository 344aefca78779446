use Rattle.std.proofs.Common.{◌≡◌, ◌++◌}
use Rattle.std.specs.Prelude.{IsTrue}
use Rattle.emit_core.specs.FlowTableEvents.{is_covered}
use Rattle.emit_core.proofs.SearchSteps.{HoldsOfEach}
use Rattle.emit_core.proofs.answers.first_uncovered.Given as goal

abbrev pub invariant-loop-flow : goal.invariant-loop-flow
invariant-loop-flow l = record {
  walk : l.yielded ++ l.flow-iterator ≡ l.stateful.flows;
  covered : HoldsOfEach (λ g. IsTrue (is_covered l.services l.permitted.flows g)) l.yielded;
}
