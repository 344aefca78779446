use Rattle.std.proofs.Common.{◌≡◌, ◌++◌}
use Rattle.reach_core.proofs.join_closure.JoinClosure.of.Given as goal

abbrev pub invariant-loop-f : goal.invariant-loop-f
invariant-loop-f l =
    record {
      size : l.closure.size ≡ l.e.size;
      flows : l.closure.flows ≡ l.yielded;
      walk : l.yielded ++ l.f-iterator ≡ l.e.flows;
    }
