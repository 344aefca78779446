-- Test vector: the packets that pass between two hosts with host firewalls, for packets in both directions and a forget event.
use Rattle.std.proofs.Common.{◌≡◌, ℕ, Bool, true, false, List, [], ◌∷◌, Some, None, refl, true≢false}
use Rattle.std.specs.Prelude.{codes}
use Rattle.host_net.specs.declared.packet.Packet.{Packet}
use Rattle.host_net.specs.declared.packet.CtState.TheVariants.{New, Established}
use Rattle.host_net.specs.declared.packet.Verdict.TheVariants.{Forward as Forwarded, Drop as Dropped}
use Rattle.host_net.specs.Host.{Host, owner_of}
use Rattle.host_net.specs.Packet.{swap_of}
use Rattle.host_net.specs.Prefix.{covers, prefix_with}
use Rattle.host_net.specs.Site.{site_with}
use Rattle.flow_set.specs.declared.flow.Flow.{Flow}
use Rattle.ipt_rules.specs.Chain.{Chain}
use Rattle.ipt_rules.specs.Semantics.{goes_on, ends, decides}
use Rattle.pkt_core.specs.declared.event.Event.{Event}
use Rattle.pkt_core.specs.declared.event.Event.TheVariants.{Seen, Forget}
use Rattle.pkt_core.specs.FlowPolicy.{policy_with}
use Rattle.pkt_core.specs.Tracking.{after_forget}
use Rattle.emit_core.specs.declared.direction.Direction.TheVariants.{Outbound, Inbound}
use Rattle.host_emit.specs.HostEnforcement.{PassesOn}
use Rattle.host_emit.specs.LocalEvents.{LocalRuns}
use Rattle.host_emit.specs.LocalLayout.{is_specific, local_layout}
use Rattle.host_emit.specs.Delivery.{Goes, stays, reaches_receiver, Tables, after_taken, empty_tables}

-- Host 0 at 10.0.0.1, and host 1 at 10.0.0.2.
abbrev hosts : List Host
hosts =
    record { name = codes "a"; prefixes = prefix_with 167772161 32 ∷ []; rest = false }
    ∷ record { name = codes "b"; prefixes = prefix_with 167772162 32 ∷ []; rest = false }
    ∷ []

-- The flow from host 0 to host 1 is permitted, and its answers pass.
abbrev flows : List Flow
flows = record { from = 0; to = 1 } ∷ []

-- The chains for the machines of a host.
abbrev chains : ℕ → List Chain
chains = local_layout (policy_with (site_with hosts []) flows flows)

-- A packet from host 0 to host 1, and its answer.
abbrev request : Packet
request = record { src = 167772161; dst = 167772162; proto = 6; sport = 40000; dport = 80 }

abbrev answer : Packet
answer = swap_of request

-- ---- the chains, by the state of the connection

sends_no_answer : PassesOn (chains 1) Outbound New answer false
unfolding covers
sends_no_answer = record { outcome = Some Dropped; gives = goes_on refl (decides refl (goes_on refl (ends refl))); verdict = refl }

sends_request : PassesOn (chains 0) Outbound New request true
unfolding covers
sends_request = record { outcome = Some Forwarded; gives = goes_on refl (decides refl (ends refl)); verdict = refl }

receives_request : PassesOn (chains 1) Inbound New request true
unfolding covers
receives_request = record { outcome = Some Forwarded; gives = goes_on refl (decides refl (ends refl)); verdict = refl }

sends_answer : PassesOn (chains 1) Outbound Established answer true
unfolding covers
sends_answer = record { outcome = Some Forwarded; gives = goes_on refl (decides refl (ends refl)); verdict = refl }

receives_answer : PassesOn (chains 0) Inbound Established answer true
unfolding covers
receives_answer = record { outcome = Some Forwarded; gives = goes_on refl (decides refl (ends refl)); verdict = refl }

-- ---- the tables of both hosts, after each event

abbrev dropped : Tables
dropped = after_taken (is_specific hosts) empty_tables 1 answer false

abbrev asked : Tables
asked = after_taken (is_specific hosts) (after_taken (is_specific hosts) dropped 0 request true) 1 request true

abbrev answered : Tables
answered = after_taken (is_specific hosts) (after_taken (is_specific hosts) asked 1 answer true) 0 answer true

abbrev forgotten : Tables
forgotten h = after_forget (answered h) answer

abbrev dropped_again : Tables
dropped_again = after_taken (is_specific hosts) forgotten 1 answer false

-- ---- the events

abbrev GoesTo : Tables → Packet → Bool → Tables → Type 0
GoesTo = Goes hosts (is_specific hosts) (λ h. PassesOn (chains h))

no_answer_goes : GoesTo empty_tables answer false dropped
unfolding owner_of covers
no_answer_goes = stays refl (record { by_firewall = λ _. sends_no_answer; by_none = λ unspecific. absurd (true≢false unspecific) })

request_goes : GoesTo dropped request true asked
unfolding owner_of covers
request_goes =
    reaches_receiver refl
    (record { by_firewall = λ _. sends_request; by_none = λ _. refl })
    (record { by_firewall = λ _. receives_request; by_none = λ _. refl })

answer_goes : GoesTo asked answer true answered
unfolding owner_of covers
answer_goes =
    reaches_receiver refl
    (record { by_firewall = λ _. sends_answer; by_none = λ _. refl })
    (record { by_firewall = λ _. receives_answer; by_none = λ _. refl })

forgotten_goes : GoesTo forgotten answer false dropped_again
unfolding owner_of covers
forgotten_goes = stays refl (record { by_firewall = λ _. sends_no_answer; by_none = λ unspecific. absurd (true≢false unspecific) })

abbrev events : List Event
events = Seen answer ∷ Seen request ∷ Seen answer ∷ Forget answer ∷ Seen answer ∷ []

-- An answer is dropped before its request was seen, passes after it, and is dropped once the connection is forgotten.
pub row_passes : LocalRuns (λ h. PassesOn (chains h)) hosts events (Some false ∷ Some true ∷ Some true ∷ None ∷ Some false ∷ [])
row_passes =
    (dropped_again, (dropped, no_answer_goes, (asked, request_goes, (answered, answer_goes, (dropped_again, forgotten_goes, refl)))))
