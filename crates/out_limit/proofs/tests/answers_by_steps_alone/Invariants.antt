use Rattle.std.proofs.Common.{◌≡◌, length}
use Rattle.out_limit.proofs.tests.answers_by_steps_alone.Given as goal

abbrev pub invariant-loop-host : goal.invariant-loop-host
invariant-loop-host g l = length l.limits ≡ 3
