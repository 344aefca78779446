use Rattle.std.proofs.Common.{◌≡◌, ◌++◌}
use Rattle.reach_core.proofs.reach_closure.ReachClosure.of.Given as goal

abbrev pub invariant-loop-f : goal.invariant-loop-f
invariant-loop-f l =
    record {
      size : l.closure.size ≡ l.e.size;
      flows : l.closure.flows ≡ l.yielded;
      walk : l.yielded ++ l.f-iterator ≡ l.e.flows;
    }
