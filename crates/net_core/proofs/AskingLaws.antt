-- A network with one more or one fewer flow is valid.
use Rattle.std.proofs.Common.{ℕ, Bool, true, false, List}
use Rattle.flow_set.specs.Flow.{IsFlow}
use Rattle.flow_set.specs.inner.FlowSetView.{IsFlowSet, without_flow}
use Rattle.flow_set.proofs.SubsetLaws.{IsFlowSet-subset, IsFlowSet-with_flow, subset_without_flow}
use Rattle.flow_set.specs.declared.flow.Flow.{Flow}
use Rattle.net_core.specs.inner.Asking.{asking_where, flows_where}
use Rattle.net_core.specs.inner.Fitting.{IsNetwork}
use Rattle.net_core.specs.Network.{Network}

set_where : (asked : Bool) (n : ℕ) (fs : List Flow) (f : Flow) → IsFlow n f → IsFlowSet n fs → IsFlowSet n (flows_where asked fs f)
set_where true n fs f flow set = IsFlowSet-with_flow n fs f set flow
set_where false n fs f flow set = IsFlowSet-subset n (without_flow fs f) fs set (subset_without_flow fs f set.ordered)

pub network_where : (asked : Bool) (d : Network) (f : Flow) → IsFlow d.asked.size f → IsNetwork d → IsNetwork (asking_where asked d f)
network_where asked d f flow network = record {
  hosts = network.hosts;
  sized = network.sized;
  asked = set_where asked d.asked.size d.asked.flows f flow network.asked;
  services = network.services;
  invariants = network.invariants;
  few = network.few;
}
