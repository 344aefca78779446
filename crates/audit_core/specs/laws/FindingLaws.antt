-- A finding is `Equal` iff the two sides differ on no list of events.
use Rattle.std.proofs.Common.{◌≡◌, ◌↔◌, ℕ, zero, suc, Bool, [], Some, refl, sym, subst}
use Rattle.host_net.specs.declared.packet.Packet.{Packet}
use Rattle.host_net.specs.Packet.{IsPacket, swap_of}
use Rattle.pkt_core.specs.declared.event.Event.TheVariants.{Seen}
use Rattle.pkt_core.specs.Events.{SeenAt}
use Rattle.pkt_core.specs.Filter.{ArePackets}
use Rattle.pkt_core.specs.FlowPolicy.{permits, permits_reply_to}
use Rattle.audit_core.specs.declared.kind.Kind.{Kind}
use Rattle.audit_core.specs.declared.kind.Kind.TheVariants.{Alone, AfterSwap, AfterBoth}
use Rattle.audit_core.specs.declared.finding.Finding.{Finding}
use Rattle.audit_core.specs.declared.finding.Finding.TheVariants.{Equal, Differ as Differing}
use Rattle.audit_core.specs.declared.finding.Trace.{Trace}
use Rattle.audit_core.specs.Findings.{DifferSomewhere, events_of, trace_of}
use Rattle.audit_core.specs.inner.Findings.{IsFinding}
use Rattle.audit_core.specs.laws.ListLaws.{agree_not_differ}
use Rattle.rules_space.specs.Rules.{filter_of}
use Rattle.audit_core.specs.Sides.{Sides}

-- The swap of a packet is a packet.
pub swaps_known : (p : Packet) → IsPacket p → IsPacket (swap_of p)
swaps_known p is = (is.1, is.0, is.2, is.4, is.3)

seen_is : (q p : Packet) → Some (Seen q) ≡ Some (Seen p) → q ≡ p
seen_is q p h = cc

none_there : (k : ℕ) (p : Packet) → SeenAt [] k p → ⊥
none_there k p h = cc

-- The packets of a trace are valid packets.
pub trace_packets : (kind : Kind) (q : Packet) (f : Bool) → IsPacket q → ArePackets (events_of (trace_of kind q f))
trace_packets Alone q f known zero p there = subst IsPacket (seen_is q p there) known
trace_packets Alone q f known (suc k) p there = absurd (none_there k p there)
trace_packets AfterSwap q f known zero p there = subst IsPacket (seen_is (swap_of q) p there) (swaps_known q known)
trace_packets AfterSwap q f known (suc zero) p there = subst IsPacket (seen_is q p there) known
trace_packets AfterSwap q f known (suc (suc k)) p there = absurd (none_there k p there)
trace_packets AfterBoth q f known zero p there = subst IsPacket (seen_is q p there) known
trace_packets AfterBoth q f known (suc zero) p there = subst IsPacket (seen_is (swap_of q) p there) (swaps_known q known)
trace_packets AfterBoth q f known (suc (suc zero)) p there = subst IsPacket (seen_is q p there) known
trace_packets AfterBoth q f known (suc (suc (suc k))) p there = absurd (none_there k p there)

-- A finding is `Equal` iff the two sides differ on no list of events.
pub equal_exactly : (sides : Sides) (finding : Finding) → IsFinding sides finding → (finding ≡ Equal) ↔ (DifferSomewhere sides → ⊥)
equal_exactly sides Equal agree = (
  (λ is differ. agree_not_differ (filter_of sides.rules) (permits sides.policy) (permits_reply_to sides.policy) differ.0 (agree differ.0 differ.1) differ.2),
  (λ none. refl),
)
equal_exactly sides (Differing trace) found = (
  (λ is. absurd (apart is)),
  (λ none. absurd (none (
    events_of trace,
    subst (λ (t : Trace). ArePackets (events_of t)) (sym found.is) (trace_packets found.kind found.packet trace.forwards found.first.packet),
    found.differ,
  ))),
)
  where
    apart : Differing trace ≡ Equal → ⊥
    apart is = cc
