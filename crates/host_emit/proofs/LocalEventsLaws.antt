-- If the hosts enforce the policy, exactly the expected packets pass, and those between two hosts that do not enforce.
use Rattle.std.proofs.Common.{◌≡◌, ◌⊎◌, IsTrue, ℕ, Bool, true, false, ◌==◌, ◌&&◌, List, Option, Some, None, refl, sym, ap, subst, ◌∙◌, true≢false}
use Rattle.std.specs.Prelude.{if◌then◌else◌, IsSome}
use Rattle.std.specs.Option.{option_map_or}
use Rattle.host_net.specs.declared.packet.Packet.{Packet}
use Rattle.host_net.specs.Host.{Host, owner_of}
use Rattle.host_net.specs.inner.Hosts.{IsHosts}
use Rattle.host_net.specs.Service.{is_served}
use Rattle.host_net.specs.Services.{services_of}
use Rattle.host_net.specs.Site.{Site}
use Rattle.flow_set.specs.declared.flow.Flow.{Flow}
use Rattle.flow_set.specs.FlowSet.{has, IsSubset}
use Rattle.ipt_rules.specs.Semantics.{PassesChains}
use Rattle.pkt_core.specs.declared.event.Event.{Event}
use Rattle.host_net.specs.Packet.{swap_of}
use Rattle.pkt_core.specs.Events.{WasSeen}
use Rattle.pkt_core.specs.Expected.{AreExpected, Expected}
use Rattle.pkt_core.proofs.ExpectedLaws.{expected_once}
use Rattle.pkt_core.specs.Filter.{RunsFromNoConnections}
use Rattle.pkt_core.proofs.FilterLaws.{is_of-within}
use Rattle.pkt_core.specs.FlowPolicy.{FlowPolicy, flow_of, flow_of_owners, lets_pass, permits, permits_reply_to}
use Rattle.emit_core.specs.declared.direction.Direction.{Direction}
use Rattle.emit_core.specs.declared.direction.Direction.TheVariants.{Outbound, Inbound}
use Rattle.emit_core.proofs.ForwardingLaws.{layout_expected}
use Rattle.emit_core.specs.Layout.{layout}
use Rattle.emit_core.specs.OtherAddress.{other_address}
use Rattle.emit_core.specs.Directions.{other_direction}
use Rattle.host_emit.specs.HostEnforcement.{EnforcesAtHost, IsExternal, PassesOn, is_own}
use Rattle.host_emit.proofs.GuardingLaws.{layout_guards, owned_covered}
use Rattle.host_emit.specs.inner.HostFirewalls.{AreFirewallsFor}
use Rattle.host_emit.specs.LocalEvents.{AreExternal, AreSpecific, LocalRuns, DeliversAsExpected, PassesSoundly, RunsWith}
use Rattle.host_emit.specs.LocalLayout.{is_specific, local_layout}
use Rattle.host_emit.specs.Delivery.{Firewalls, empty_tables, or_unenforced}
use Rattle.host_emit.specs.inner.Passing.{host_on}
use Rattle.host_emit.proofs.PassingLaws.{all_guarded, goes_permitted, goes_soundly, pass_as_expected, pass_keeps_first, some_pass_run}

abbrev unless : Bool → Flow → Option Flow
unless b g = if b then None else Some g

same_flow : (g f : Flow) → Some g ≡ Some f → g ≡ f
same_flow g f h = cc

-- The ends of a flow own the addresses.
between_ends : (from to : Option ℕ) (f : Flow) → flow_of_owners from to ≡ Some f → (from ≡ Some f.from) × (to ≡ Some f.to)
between_ends None to f is = cc
between_ends (Some i) None f is = cc
between_ends (Some i) (Some j) f is = by_test (i == j) is
  where
    by_test : (b : Bool) → unless b (record { from = i; to = j }) ≡ Some f → (Some i ≡ Some f.from) × (Some j ≡ Some f.to)
    by_test true is = cc
    by_test false is = let it = same_flow (record { from = i; to = j }) f is in (ap (λ (g : Flow). Some g.from) it, ap (λ (g : Flow). Some g.to) it)

own_end : (hosts : List Host) (packet : Packet) (f : Flow) (side : Direction) → flow_of hosts packet ≡ Some f
    → owner_of hosts (other_address (other_direction side) packet) ≡ Some (host_on side f)
own_end hosts packet f Outbound is = (between_ends (owner_of hosts packet.src) (owner_of hosts packet.dst) f is).0
own_end hosts packet f Inbound is = (between_ends (owner_of hosts packet.src) (owner_of hosts packet.dst) f is).1

-- A packet that belongs to one of some flows has a flow.
of_some : (site : Site) (packet : Packet) (flows : List Flow) (o : Option Flow)
    → option_map_or (λ f. has flows f && is_served (services_of site.services f.from f.to) packet) o false ≡ true → IsSome o
of_some site packet flows None is = absurd (true≢false (sym is))
of_some site packet flows (Some f) is = refl

-- At its end of a flow the packet belongs to the specific host.
own_decides : (hosts : List Host) (side : Direction) (packet : Packet) (f : Flow) → flow_of hosts packet ≡ Some f → is_specific hosts (host_on side f) ≡ true
    → (b : Bool) → (is_own side hosts (host_on side f) packet && b) ≡ b
own_decides hosts side packet f is specific b =
    ap (λ (own : Bool). own && b) (owned_covered hosts (other_address (other_direction side) packet) (host_on side f) specific (own_end hosts packet f side is))

module _ (firewalls : Firewalls) (policy : FlowPolicy) (subset : IsSubset policy.stateful policy.permitted)
    (guarded : (h : ℕ) → is_specific policy.site.hosts h ≡ true → EnforcesAtHost (firewalls h) policy h) where
  -- A host that enforces the policy decides as the policy does at its end of a flow.
  guards_are_firewalls : (enforces : ℕ → Bool) → AreSpecific policy.site.hosts enforces
      → AreFirewallsFor policy.site.hosts enforces firewalls IsExternal (permits policy) (permits_reply_to policy)
  guards_are_firewalls enforces are_specific = record {
    given = λ side state packet f known is enforcing.
        let specific = are_specific (host_on side f) enforcing in
        subst (firewalls (host_on side f) side state packet) (own_decides policy.site.hosts side packet f is specific (lets_pass policy packet state))
        ((guarded (host_on side f) specific).given side state packet known);
    only = λ side state packet f passes known is enforcing has.
        let specific = are_specific (host_on side f) enforcing in
        (guarded (host_on side f) specific).only side state packet passes known has ∙ own_decides policy.site.hosts side packet f is specific (lets_pass policy packet state);
    policy = λ packet known stateful. is_of-within policy.site policy.stateful policy.permitted packet subset stateful;
    flows = λ packet permitted. of_some policy.site packet policy.permitted (flow_of policy.site.hosts packet) permitted;
  }

  partly_expected : (enforces : ℕ → Bool) → AreSpecific policy.site.hosts enforces → (events : List Event) (answers : List (Option Bool)) → AreExternal events
      → RunsWith enforces firewalls policy.site.hosts events answers → AreExpected (or_unenforced policy.site.hosts enforces (permits policy)) (permits_reply_to policy) events answers
  partly_expected enforces are_specific events answers known run =
      pass_as_expected policy.site.hosts enforces firewalls IsExternal (permits policy) (permits_reply_to policy) (guards_are_firewalls enforces are_specific) events known answers run

  partly_soundly : (enforces : ℕ → Bool) → AreSpecific policy.site.hosts enforces → (past : List Event) (packet : Packet) → IsExternal packet
      → PassesSoundly enforces firewalls policy.site.hosts past packet → Expected (or_unenforced policy.site.hosts enforces (permits policy)) (permits_reply_to policy) past packet
  partly_soundly enforces are_specific past packet known soundly =
      goes_soundly policy.site.hosts enforces firewalls IsExternal (permits policy) (permits_reply_to policy) (guards_are_firewalls enforces are_specific)
      past soundly.tables packet known soundly.sound true soundly.behind soundly.passes refl

  all_are_specific : AreSpecific policy.site.hosts (is_specific policy.site.hosts)
  all_are_specific h specific = specific

  all_expected : (events : List Event) (answers : List (Option Bool)) → AreExternal events → LocalRuns firewalls policy.site.hosts events answers
      → AreExpected (permits policy) (permits_reply_to policy) events answers
  all_expected events answers known run =
      subst (λ (permitted : Packet → Bool). AreExpected permitted (permits_reply_to policy) events answers) (λ i packet. all_guarded policy.site.hosts (permits policy) packet i)
      (partly_expected (is_specific policy.site.hosts) all_are_specific events answers known run)

  all_firewalls : AreFirewallsFor policy.site.hosts (is_specific policy.site.hosts) firewalls IsExternal (permits policy) (permits_reply_to policy)
  all_firewalls = guards_are_firewalls (is_specific policy.site.hosts) all_are_specific

  -- Exactly the expected packets pass.
  pub guards_expected : DeliversAsExpected firewalls policy
  guards_expected = record {
    expected = all_expected;
    partial_deployment = partly_expected;
    first = λ events answers behind known run.
        pass_keeps_first policy.site.hosts (is_specific policy.site.hosts) firewalls IsExternal (permits policy) (permits_reply_to policy) all_firewalls events known answers behind run;
    some = λ events known. some_pass_run policy.site.hosts (is_specific policy.site.hosts) firewalls IsExternal (permits policy) (permits_reply_to policy) all_firewalls empty_tables events known;
    one = λ events answers others known run other.
        expected_once (permits policy) (permits_reply_to policy) events answers others (all_expected events answers known run) (all_expected events others known other);
    only_expected = λ past packet known soundly.
        subst (λ (b : Bool). IsTrue b ⊎ (IsTrue (permits_reply_to policy (swap_of packet)) × WasSeen past (swap_of packet))) (all_guarded policy.site.hosts (permits policy) packet)
        (partly_soundly (is_specific policy.site.hosts) all_are_specific past packet known soundly);
    partial_only_expected = partly_soundly;
    all_permitted = λ enforces are_specific tables behind packet passes known allowed goes.
        goes_permitted policy.site.hosts enforces firewalls IsExternal (permits policy) (permits_reply_to policy) (guards_are_firewalls enforces are_specific) tables packet known allowed passes behind goes;
  }

-- With the layouts of all hosts exactly the expected packets pass.
pub layouts_expected : (policy : FlowPolicy) → IsHosts policy.site.hosts → IsSubset policy.stateful policy.permitted → DeliversAsExpected (λ h. PassesOn (local_layout policy h)) policy
layouts_expected policy known subset = guards_expected (λ h. PassesOn (local_layout policy h)) policy subset (λ h specific. layout_guards policy h known)

-- A packet passes between the hosts if and only if the chains of a firewall for the whole network forward it.
pub passes_as_forwarded : (policy : FlowPolicy) → IsHosts policy.site.hosts → IsSubset policy.stateful policy.permitted → (events : List Event) → AreExternal events
    → (passes forwards : List (Option Bool)) → LocalRuns (λ h. PassesOn (local_layout policy h)) policy.site.hosts events passes
    → RunsFromNoConnections (PassesChains (layout policy)) events forwards → passes ≡ forwards
passes_as_forwarded policy known subset events external passes forwards local whole =
    expected_once (permits policy) (permits_reply_to policy) events passes forwards
    ((layouts_expected policy known subset).expected events passes external local)
    ((layout_expected policy known subset).expected events forwards (λ k packet there. (external k packet there).0) whole)
