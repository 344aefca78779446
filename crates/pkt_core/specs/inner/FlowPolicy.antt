-- Valid policies between hosts.
use Rattle.host_net.specs.inner.Site.{IsSite}
use Rattle.flow_set.specs.FlowSet.{IsSubset}
use Rattle.pkt_core.specs.FlowPolicy.{FlowPolicy}

-- A policy is valid: its hosts are those of a network, and its stateful flows are permitted.
pub record IsFlowPolicy (policy : FlowPolicy) : Type 0 where
  pub site : IsSite policy.site
  pub within : IsSubset policy.stateful policy.permitted
