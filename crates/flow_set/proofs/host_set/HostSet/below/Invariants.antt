use Rattle.std.proofs.Common.{◌≡◌, true}
use Rattle.flow_set.specs.HostSet.{hosts_below}
use Rattle.flow_set.proofs.host_set.HostSet.below.Given as goal

abbrev pub invariant-loop-host : goal.invariant-loop-host
invariant-loop-host l = l.hosts ≡ hosts_below l.host (λ _. true)
