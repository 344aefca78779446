use Rattle.std.proofs.Common.{◌≡◌, length}
use Rattle.out_limit.proofs.tests.a_hundred_and_twenty_eight_hosts.Given as goal

abbrev pub invariant-loop-host : goal.invariant-loop-host
invariant-loop-host g l = length l.limits ≡ 128
