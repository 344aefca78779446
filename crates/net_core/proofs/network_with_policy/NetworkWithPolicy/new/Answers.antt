use Rattle.std.proofs.Common.{subst}
use Rattle.net_core.specs.inner.Fitting.{IsNetwork}
use Rattle.net_core.proofs.network_with_policy.NetworkWithPolicy.new.Goals as goal

pub evaluate-requires : goal.evaluate-requires
evaluate-requires c = subst IsNetwork c.description.view_is c.description.invariant
