-- Properties of the policy of a network.
use Rattle.std.specs.Prelude.{true, List}
use Rattle.audit_core.specs.Sides.{Sides, sides_of}
use Rattle.host_net.specs.declared.packet.Packet.{Packet}
use Rattle.host_net.specs.declared.packet.CtState.{CtState}
use Rattle.host_net.specs.Packet.{IsPacket}
use Rattle.net_core.specs.Network.{Network}
use Rattle.net_core.specs.Policies.{IsPolicyOf, Policy}
use Rattle.pkt_core.specs.declared.event.Event.{Event}
use Rattle.pkt_core.specs.AnyTracking.{IsSoundFor}
use Rattle.pkt_core.specs.Expected.{Expected}
use Rattle.pkt_core.specs.Filter.{ForwardsAsExpected}
use Rattle.pkt_core.specs.Firewall.{Filter}
use Rattle.pkt_core.specs.FlowPolicy.{FlowPolicy, permits, permits_reply_to}
use Rattle.report_core.specs.FlowPolicies.{flow_policy_of}
use Rattle.rules_space.specs.Rules.{AnyRules}

-- The property holds for the policy of the network.
pub record OfPolicy (d : Network) (Holds : FlowPolicy → Type 0) : Type 0 where
  pub policy : Policy
  pub is_policy : IsPolicyOf d policy
  pub so : Holds (flow_policy_of d policy)

-- With any connection tracking, after every list of events, a packet in a state that is sound for the policy passes only if it is expected.
abbrev pub IsSafe : Filter → FlowPolicy → Type 0
IsSafe filter policy = (past : List Event) (packet : Packet) (state : CtState) → IsPacket packet → IsSoundFor (permits policy) past packet state
    → filter state packet true → Expected (permits policy) (permits_reply_to policy) past packet

-- The filter forwards what the policy of the network and its answers expect, and with any connection tracking only that.
abbrev pub ForwardsForNetwork : Network → Filter → Type 0
ForwardsForNetwork d filter = OfPolicy d (λ policy. ForwardsAsExpected filter policy × IsSafe filter policy)

-- The property holds for the policy of the network and the rules.
abbrev pub OfSides : Network → AnyRules → (Sides → Type 0) → Type 0
OfSides d rules Holds = OfPolicy d (λ policy. Holds (sides_of policy rules))
