-- A flow table forwards what is expected if answers need no connection state.
use Rattle.std.proofs.Common.{◌≡◌, ◌&&◌, ◌||◌, Bool, true, false, List, [], Option, Some, None, sym, subst, ◌∙◌, refl, true≢false}
use Rattle.host_net.specs.declared.packet.Packet.{Packet}
use Rattle.host_net.specs.declared.packet.CtState.{CtState}
use Rattle.host_net.specs.Packet.{swap_of}
use Rattle.host_net.specs.Verdict.{verdict_if}
use Rattle.host_net.proofs.VerdictLaws.{verdict_if-injective}
use Rattle.host_net.specs.Site.{Site}
use Rattle.flow_set.specs.declared.flow.Flow.{Flow}
use Rattle.flow_set.specs.FlowSet.{IsSubset}
use Rattle.pkt_core.specs.Firewall.{is_established}
use Rattle.pkt_core.specs.FlowPolicy.{FlowPolicy, flow_of, is_of, lets_pass, policy_with}
use Rattle.pkt_core.specs.Filter.{Enforces, ForwardsAsExpected}
use Rattle.pkt_core.proofs.FilterLaws.{enforced_expected}
use Rattle.ofp_rules.specs.declared.entry.Frame.TheVariants.{Arp, Ipv4, Other}
use Rattle.ofp_rules.specs.declared.entry.Entry.{Entry}
use Rattle.ofp_rules.specs.Semantics.{HasVerdict, PassesEntries}
use Rattle.emit_core.proofs.FlowTableAnswerLaws.{same_expected}
use Rattle.emit_core.specs.FlowTableEvents.{AnswersAreCovered}
use Rattle.emit_core.specs.FlowTableForwarding.{ForwardsArpAlone}
use Rattle.emit_core.proofs.FlowTableLaws.{ForwardsFlows, belongs}

none_of : (site : Site) (packet : Packet) → is_of site [] packet ≡ false
none_of site packet = by_flow (flow_of site.hosts packet)
  where
    by_flow : (flow : Option Flow) → belongs site.services [] packet flow ≡ false
    by_flow None = refl
    by_flow (Some f) = refl

alone : (permitted stateful established : Bool) → stateful ≡ false → permitted ≡ (permitted || (stateful && established))
alone true stateful established none = refl
alone false true established none = cc
alone false false established none = refl

lets_pass_alone : (site : Site) (p : List Flow) (packet : Packet) (state : CtState) → is_of site p packet ≡ lets_pass (policy_with site p []) packet state
lets_pass_alone site p packet state = alone (is_of site p packet) (is_of site [] (swap_of packet)) (is_established state) (none_of site (swap_of packet))

-- As a filter of IPv4 frames, a table that forwards some flows enforces them, without stateful flows.
pub flows_enforced : (entries : List Entry) (site : Site) (p : List Flow) → ForwardsFlows entries site p → Enforces (PassesEntries entries) (policy_with site p [])
flows_enforced entries site p forwards = record {
  given = λ packet state is. subst (λ (b : Bool). PassesEntries entries state packet b) (lets_pass_alone site p packet state) (forwards.given (Ipv4 packet) is);
  only = λ packet state passes is has. verdict_if-injective passes _ (forwards.only (Ipv4 packet) (verdict_if passes) is has) ∙ lets_pass_alone site p packet state;
}

no_flows : (p : List Flow) → IsSubset [] p
no_flows p = record { ordered = tt; within = λ f none. absurd (true≢false (sym none)) }

-- It forwards what is expected with stateful flows too, if their answers are covered.
pub flows_expected : (entries : List Entry) (policy : FlowPolicy) → ForwardsFlows entries policy.site policy.permitted → AnswersAreCovered policy
    → ForwardsAsExpected (PassesEntries entries) policy
flows_expected entries policy forwards covered =
    let permitted = policy_with policy.site policy.permitted [] in
    let alone : ForwardsAsExpected (PassesEntries entries) permitted =
    enforced_expected (PassesEntries entries) permitted (no_flows policy.permitted) (flows_enforced entries policy.site policy.permitted forwards) in
    record {
      expected = λ events answers packets run. same_expected policy events answers packets covered (alone.expected events answers packets run);
      some = alone.some;
      one = alone.one;
    }

-- Of other frames it forwards only ARP.
pub arp_alone : (entries : List Entry) (site : Site) (p : List Flow) → ForwardsFlows entries site p → ForwardsArpAlone entries
arp_alone entries site p forwards = record {
  arp = λ v. (forwards.only Arp v tt, λ is. subst (HasVerdict entries Arp) (sym is) (forwards.given Arp tt));
  other = λ v. (forwards.only Other v tt, λ is. subst (HasVerdict entries Other) (sym is) (forwards.given Other tt));
}
