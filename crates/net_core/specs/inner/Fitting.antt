-- Validity of a network: its parts are consistent.
use Rattle.std.specs.Prelude.{◌≡◌, ◌≤◌, All, length}
use Rattle.flow_set.specs.inner.FlowSetView.{IsFlowSet}
use Rattle.host_net.specs.inner.Hosts.{IsHosts}
use Rattle.host_net.specs.Limits.{invariant_limit}
use Rattle.host_net.specs.inner.Services.{AreServices}
use Rattle.inv_any.specs.Templates.{meaning_of}
use Rattle.net_core.specs.Network.{Network}

-- The parts are consistent: the hosts are valid, the flows are between them, the services are valid, and each invariant has an attribute
-- for each host.
pub record IsNetwork (d : Network) : Type 0 where
  pub hosts : IsHosts d.hosts
  pub sized : d.asked.size ≡ length d.hosts
  pub asked : IsFlowSet d.asked.size d.asked.flows
  pub services : AreServices d.services
  pub invariants : All (λ inv. (meaning_of inv).size ≡ length d.hosts) d.invariants
  pub few : length d.invariants ≤ invariant_limit
