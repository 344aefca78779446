-- A filter that enforces a policy forwards what the policy expects.
use Rattle.std.proofs.Common.{◌≡◌, Bool, true, false, ◌&&◌, List, Option, Some, None}
use Rattle.std.specs.Option.{option_map_or}
use Rattle.std.proofs.lemmas.Bool.{and_parts, and_from}
use Rattle.host_net.specs.declared.packet.Packet.{Packet}
use Rattle.host_net.specs.Packet.{IsPacket}
use Rattle.host_net.specs.Service.{is_served}
use Rattle.host_net.specs.Services.{RestrictedFlow, services_of}
use Rattle.host_net.specs.Site.{Site}
use Rattle.flow_set.specs.declared.flow.Flow.{Flow}
use Rattle.flow_set.specs.FlowSet.{has, IsSubset}
use Rattle.pkt_core.specs.declared.event.Event.{Event}
use Rattle.pkt_core.specs.Expected.{AreExpected}
use Rattle.pkt_core.proofs.ExpectedLaws.{expected_once, runs_as_expected, some_run}
use Rattle.pkt_core.specs.Filter.{ArePackets, Enforces, ForwardsAsExpected, RunsFromNoConnections}
use Rattle.pkt_core.specs.Firewall.{Filter}
use Rattle.pkt_core.specs.inner.FirewallFor.{IsFirewallFor}
use Rattle.pkt_core.specs.FlowPolicy.{FlowPolicy, flow_of, is_of, permits, permits_reply_to}
use Rattle.pkt_core.specs.Tracking.{no_connections}

of_more : (services : List RestrictedFlow) (s p : List Flow) (packet : Packet) (flow : Option Flow) → IsSubset s p
    → option_map_or (λ f. has s f && is_served (services_of services f.from f.to) packet) flow false ≡ true
    → option_map_or (λ f. has p f && is_served (services_of services f.from f.to) packet) flow false ≡ true
of_more services s p packet None subset h = h
of_more services s p packet (Some f) subset h =
    let parts = and_parts (has s f) (is_served (services_of services f.from f.to) packet) h in
    and_from (has p f) (is_served (services_of services f.from f.to) packet) (subset.within f parts.0) parts.1

-- A packet that belongs to one of some flows belongs to one of more flows.
pub is_of-within : (site : Site) (s p : List Flow) (packet : Packet) → IsSubset s p → is_of site s packet ≡ true → is_of site p packet ≡ true
is_of-within site s p packet subset h = of_more site.services s p packet (flow_of site.hosts packet) subset h

-- A filter that enforces a policy is a firewall for it.
firewall_for : (filter : Filter) (policy : FlowPolicy) → IsSubset policy.stateful policy.permitted → Enforces filter policy
    → IsFirewallFor filter IsPacket (permits policy) (permits_reply_to policy)
firewall_for filter policy subset enforces = record {
  given = λ state packet is. enforces.given packet state is;
  only = λ state packet passes is said. enforces.only packet state passes is said;
  policy = λ packet is stateful. is_of-within policy.site policy.stateful policy.permitted packet subset stateful;
}

pub enforced_expected : (filter : Filter) (policy : FlowPolicy) → IsSubset policy.stateful policy.permitted → Enforces filter policy → ForwardsAsExpected filter policy
enforced_expected filter policy subset enforces = record {
  expected = expected;
  some = λ events packets. some_run filter IsPacket (permits policy) (permits_reply_to policy) firewall no_connections events packets;
  one = λ events answers others packets run other.
      expected_once (permits policy) (permits_reply_to policy) events answers others (expected events answers packets run) (expected events others packets other);
}
  where
    firewall : IsFirewallFor filter IsPacket (permits policy) (permits_reply_to policy)
    firewall = firewall_for filter policy subset enforces

    expected : (events : List Event) (answers : List (Option Bool)) → ArePackets events → RunsFromNoConnections filter events answers
        → AreExpected (permits policy) (permits_reply_to policy) events answers
    expected events answers packets run = runs_as_expected filter IsPacket (permits policy) (permits_reply_to policy) firewall events packets answers run
