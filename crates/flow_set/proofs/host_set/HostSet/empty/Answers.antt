use Rattle.flow_set.proofs.HostSets.{hosts_below-empty, no_bits}
use Rattle.flow_set.proofs.host_set.HostSet.empty.Goals as goal

pub returns : goal.returns
returns c = hosts_below-empty 256 _ (λ q _. no_bits q)
