use Rattle.std.proofs.Common.{subst}
use Rattle.std.specs.Prelude.{◌↔◌, IsTrue}
use Rattle.net_core.specs.Policies.{IsEdgeWiseNetwork}
use Rattle.net_core.specs.inner.Policed.{Policed}
use Rattle.net_core.proofs.network_with_policy.NetworkWithPolicy.is_edge_wise_network.Goals as goal

pub returns : goal.returns
returns c = subst (λ (p : Policed). IsTrue c.is_edge_wise_network.result ↔ IsEdgeWiseNetwork p.network) c.self.view_is c.is_edge_wise_network.ensures
