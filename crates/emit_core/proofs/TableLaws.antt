-- The flow table of a policy and its verdicts, if the policy has no range of ports and no more entries than the limit, and if its answers
-- are covered.
use Rattle.std.proofs.Common.{◌≡◌, ◌≤◌, ◌&&◌, ◌||◌, Bool, true, false, List, length, refl, subst, ◌∙◌, arith}
use Rattle.std.specs.Prelude.{IsTrue, IsFalse}
use Rattle.std.proofs.lemmas.Bool.Decides.{nat_tests}
use Rattle.host_net.specs.declared.packet.Packet.{Packet}
use Rattle.host_net.specs.declared.packet.CtState.{CtState}
use Rattle.host_net.specs.Packet.{IsPacket, swap_of}
use Rattle.host_net.specs.Host.{owner_of}
use Rattle.host_net.specs.Services.{RestrictedFlow}
use Rattle.host_net.specs.Verdict.{verdict_if}
use Rattle.host_net.proofs.VerdictLaws.{verdict_if-injective}
use Rattle.host_net.specs.Site.{Site}
use Rattle.host_net.specs.inner.Site.{IsSite}
use Rattle.flow_set.specs.declared.flow.Flow.{Flow}
use Rattle.flow_set.specs.Flow.{before}
use Rattle.pkt_core.specs.Firewall.{is_established}
use Rattle.pkt_core.specs.Filter.{Enforces}
use Rattle.pkt_core.specs.FlowPolicy.{FlowPolicy, lets_pass, permits, permits_reply_to}
use Rattle.ofp_rules.specs.declared.entry.Frame.TheVariants.{Ipv4}
use Rattle.ofp_rules.specs.inner.Build.{IsTable}
use Rattle.ofp_rules.specs.Semantics.{PassesEntries}
use Rattle.emit_core.specs.FlowTable.{flow_entries}
use Rattle.emit_core.proofs.FlowTableAnswerLaws.{answer_is}
use Rattle.emit_core.specs.FlowTableEvents.{AnswersAreCovered, IsFirstUncovered, is_covered}
use Rattle.emit_core.proofs.FlowTableEventsLaws.{arp_alone}
use Rattle.emit_core.specs.FlowTableForwarding.{ForwardsArpAlone}
use Rattle.emit_core.proofs.FlowTableLaws.{ForwardsFlows, passes, unambiguous}
use Rattle.emit_core.proofs.FlowTableRangeLaws.{all_ask, flow_entries_in_range}
use Rattle.emit_core.proofs.FlowTableVerdictLaws.{forwards_flows}
use Rattle.emit_core.specs.PortRanges.{HasNoRange, IsFirstRange, has_range}

-- The entries of a policy are a table.
pub flow_entries_table : (site : Site) (p : List Flow) → IsSite site → HasNoRange site.services p
    → length (flow_entries site p) ≤ 8192 → IsTable (flow_entries site p)
flow_entries_table site p known plain few =
    let forwards : ForwardsFlows (flow_entries site p) site p = forwards_flows site p known plain in
    record {
      accepted = (few, unambiguous site p known plain);
      in_range = flow_entries_in_range site p known;
      asks = all_ask site p known.services;
      one_verdict = λ frame is. record { verdict = verdict_if (passes site p frame); has = forwards.given frame is; only = λ v has. forwards.only frame v is has };
    }

answered_by : (permitted stateful established : Bool) → (stateful ≡ true → permitted ≡ true) → permitted ≡ (permitted || (stateful && established))
answered_by true stateful established answered = refl
answered_by false true established answered = let now : false ≡ true = answered refl in cc
answered_by false false established answered = refl

-- If answers are covered, a policy allows exactly the packets of its permitted flows.
lets_pass_answered : (policy : FlowPolicy) (packet : Packet) (state : CtState) → IsPacket packet → AnswersAreCovered policy
    → permits policy packet ≡ lets_pass policy packet state
lets_pass_answered policy packet state is covered =
    answered_by (permits policy packet) (permits_reply_to policy (swap_of packet)) (is_established state)
    (answer_is policy (owner_of policy.site.hosts packet.src) (owner_of policy.site.hosts packet.dst) packet is.4 covered)

-- So the entries of its permitted flows enforce it.
pub flow_entries_enforce : (policy : FlowPolicy) → IsSite policy.site → HasNoRange policy.site.services policy.permitted
    → AnswersAreCovered policy → Enforces (PassesEntries (flow_entries policy.site policy.permitted)) policy
flow_entries_enforce policy known plain covered =
    let forwards : ForwardsFlows (flow_entries policy.site policy.permitted) policy.site policy.permitted = forwards_flows policy.site policy.permitted known plain in
    record {
      given = λ packet state is.
          subst (λ (b : Bool). PassesEntries (flow_entries policy.site policy.permitted) state packet b) (lets_pass_answered policy packet state is covered) (forwards.given (Ipv4 packet) is);
      only = λ packet state passes is has.
          verdict_if-injective passes _ (forwards.only (Ipv4 packet) (verdict_if passes) is has) ∙ lets_pass_answered policy packet state is covered;
    }

-- Of other frames they forward only ARP.
pub flow_entries_arp : (site : Site) (p : List Flow) → IsSite site → HasNoRange site.services p
    → ForwardsArpAlone (flow_entries site p)
flow_entries_arp site p known plain = arp_alone (flow_entries site p) site p (forwards_flows site p known plain)

-- Two flows are ordered, or they are equal.
before_or_same : (f g : Flow) (b c : Bool) → before f g ≡ b → before g f ≡ c → (b ≡ true → ⊥) → (c ≡ true → ⊥) → f ≡ g
before_or_same f g true c is_before is_behind not_before not_behind = absurd (not_before refl)
before_or_same f g false true is_before is_behind not_before not_behind = absurd (not_behind refl)
before_or_same f g false false is_before is_behind not_before not_behind =
    let from : f.from ≡ g.from = grind (arith, nat_tests) in
    let to : f.to ≡ g.to = grind (arith, nat_tests) in
    λ i. record { from = from i; to = to i }

-- If answers are covered, no flow is the first whose answers are not covered.
pub none_barred : (policy : FlowPolicy) (f : Flow) → AnswersAreCovered policy → IsFirstUncovered policy f → ⊥
none_barred policy f covered barred = let answered : IsTrue (is_covered policy.site.services policy.permitted f) = covered f barred.stateful in let off = barred.barred in cc

-- Such a flow is unique.
pub first_barred_once : (policy : FlowPolicy) (f g : Flow) → IsFirstUncovered policy f → IsFirstUncovered policy g → f ≡ g
first_barred_once policy f g is other =
    before_or_same f g (before f g) (before g f) refl refl
    (λ earlier. let answered : IsTrue (is_covered policy.site.services policy.permitted f) = other.first f earlier is.stateful in let off = is.barred in cc)
    (λ later. let answered : IsTrue (is_covered policy.site.services policy.permitted g) = is.first g later other.stateful in let off = other.barred in cc)

-- The same for the first flow with a range of ports.
pub none_ranging : (services : List RestrictedFlow) (p : List Flow) (f : Flow) → HasNoRange services p → IsFirstRange services p f → ⊥
none_ranging services p f plain ranging = let off : IsFalse (has_range services f) = plain f ranging.permitted in let on = ranging.range in cc

pub first_range_once : (services : List RestrictedFlow) (p : List Flow) (f g : Flow) → IsFirstRange services p f → IsFirstRange services p g → f ≡ g
first_range_once services p f g is other =
    before_or_same f g (before f g) (before g f) refl refl
    (λ earlier. let off : IsFalse (has_range services f) = other.first f earlier is.permitted in let on = is.range in cc)
    (λ later. let off : IsFalse (has_range services g) = is.first g later other.permitted in let on = other.range in cc)
