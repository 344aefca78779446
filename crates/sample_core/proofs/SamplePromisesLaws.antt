-- The report of the sample has its guarantees.
use Rattle.std.proofs.Common.{◌≡◌, ℕ, zero, suc, ◌≤◌, IsTrue, List, [], ◌∷◌, map, subst, arith}
use Rattle.desc_core.proofs.NetworkLaws.{IsNetwork-table}
use Rattle.emit_core.proofs.ForwardingLaws.{layout_expected}
use Rattle.emit_core.specs.Layout.{layout}
use Rattle.flow_set.specs.EveryFlow.{every_flow}
use Rattle.flow_set.proofs.EveryFlowLaws.{IsFlowSet-every_flow}
use Rattle.flow_set.specs.Flow.{IsFlow}
use Rattle.flow_set.specs.laws.FlowLaws.{has_first, has_later}
use Rattle.flow_set.specs.FlowSet.{has}
use Rattle.flow_set.specs.declared.flow.Flow.{Flow}
use Rattle.host_net.specs.Limits.{host_limit}
use Rattle.host_net.specs.Packet.{IsPacket}
use Rattle.ipt_rules.specs.Semantics.{PassesChains}
use Rattle.net_core.specs.inner.Fitting.{IsNetwork}
use Rattle.net_core.proofs.HeadlineLaws.{CompliesWithAll-from_policy}
use Rattle.net_core.specs.Network.{Network}
use Rattle.net_core.proofs.PolicyLaws.{IsSubset-stateful}
use Rattle.pkt_core.specs.Filter.{ArePackets, ForwardsAsExpected}
use Rattle.pkt_core.specs.FlowPolicy.{FlowPolicy}
use Rattle.pkt_core.specs.declared.event.Event.TheVariants.{Seen}
use Rattle.report_core.specs.FlowPolicies.{flow_policy_of}
use Rattle.sample_core.proofs.AcceptedLaws.{hosts_counted, sample_is_small}
use Rattle.sample_core.specs.Sample.{Found, IsSample, packet_between, sample_events}
use Rattle.sample_core.specs.SamplePromises.{ReportsSample}
use Rattle.sample_core.specs.SampleTable.{sample_table}

-- ---- the packets of the sample

shown : (n : ℕ) (f : Flow) → n ≤ host_limit → IsFlow n f → IsPacket (packet_between f)
shown n f few (from, to, apart) = (omega (arith, few, from), omega (arith, few, to), omega arith, omega arith, omega arith)

all_shown : (n : ℕ) → n ≤ host_limit → (fs : List Flow) → ((f : Flow) → IsTrue (has fs f) → IsFlow n f) → ArePackets (map Seen (map packet_between fs))
all_shown n few [] flows k p seen = cc seen
all_shown n few (f ∷ fs) flows zero p seen =
    let same : packet_between f ≡ p = cc seen in
    subst IsPacket same (shown n f few (flows f (has_first f fs)))
all_shown n few (f ∷ fs) flows (suc k) p seen = all_shown n few fs (λ g within. flows g (has_later f fs g within)) k p seen

sample_packets_are : (n : ℕ) → n ≤ host_limit → ArePackets (sample_events n)
sample_packets_are n few = all_shown n few (every_flow n) (IsFlowSet-every_flow n (omega (arith, few))).flows

-- ---- the report

pub reports_sample : (n : ℕ) (report : List ℕ) → IsSample n report → ReportsSample n report
reports_sample n report is =
    let found : Found n = is.found in
    let d : Network = found.network in
    let policy : FlowPolicy = flow_policy_of d found.policy in
    let network : IsNetwork d = IsNetwork-table (sample_table n) d found.described in
    let few : n ≤ host_limit = sample_is_small n d found.described in
    let forwards : ForwardsAsExpected (PassesChains (layout policy)) policy = layout_expected policy network.hosts (IsSubset-stateful d policy.permitted policy.stateful found.is_policy.stateful) in
    record {
      found = found;
      written = is.written;
      hosts = hosts_counted n d few found.described;
      meets = found.is_policy.permitted.holds;
      complies = CompliesWithAll-from_policy d found.policy network found.is_policy;
      expected = forwards.expected (sample_events n) found.results (sample_packets_are n few) found.run;
    }
