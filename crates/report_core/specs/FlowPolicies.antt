-- The policy of a network as a policy between its hosts.
use Rattle.net_core.specs.Network.{Network, site_of}
use Rattle.net_core.specs.Policies.{Policy}
use Rattle.pkt_core.specs.FlowPolicy.{FlowPolicy, policy_with}

-- The hosts and the services of the network, with the permitted and the stateful flows of its policy.
abbrev pub flow_policy_of : Network → Policy → FlowPolicy
flow_policy_of d policy = policy_with (site_of d) policy.permitted.flows policy.stateful.flows
