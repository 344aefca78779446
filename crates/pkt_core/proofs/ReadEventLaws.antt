-- The events parsed from a file contain packets.
use Rattle.std.proofs.Common.{◌≡◌, inl, inr, ℕ, ◌+◌, List, [], ◌∷◌, subst}
use Rattle.text_core.specs.Reading.{Follows}
use Rattle.host_net.specs.declared.packet.Packet.{Packet}
use Rattle.host_net.specs.Packet.{IsPacket}
use Rattle.pkt_core.specs.declared.event.Event.{Event}
use Rattle.pkt_core.specs.declared.event.Event.TheVariants.{Seen, Forget}
use Rattle.pkt_core.specs.Events.{SeenAt}
use Rattle.pkt_core.specs.laws.EventLaws.{get_back}
use Rattle.text_core.specs.ListFormat.{AddsEntry}
use Rattle.pkt_core.specs.EventsText.{EncodesEvent, IsReadingOfEvents, events_text}
use Rattle.pkt_core.specs.Filter.{ArePackets}

-- A parsed event of a packet.
seen_told : (ws : List (List ℕ)) (event : Event) (p : Packet) → EncodesEvent ws event → event ≡ Seen p → IsPacket p
seen_told ws (Seen q) p told same = subst IsPacket (only q p same) told.is_packet
  where
    only : (q p : Packet) → Seen q ≡ Seen p → q ≡ p
    only q p h = cc
seen_told ws (Forget q) p told same = absurd (apart q p same)
  where
    apart : (q p : Packet) → Forget q ≡ Seen p → ⊥
    apart q p h = cc

packets_more : (n : ℕ) (before : List Event) (line : List ℕ) (now : List Event) → ArePackets before → AddsEntry events_text n before line now
    → ArePackets now
packets_more n before line now are adds k p there =
    elim (get_back before adds.entry (Seen p) k (subst (λ (es : List Event). SeenAt es k p) adds.added there)) [
      | inl old ↦ are k p old
      | inr new ↦ seen_told _ adds.entry p adds.told new.1
    ]

packets_all : (n : ℕ) (before : List Event) (ls : List (List ℕ)) (events : List Event) → ArePackets before
    → Follows (AddsEntry events_text) n before ls events → ArePackets events
packets_all n before [] events are same = subst ArePackets same are
packets_all n before (l ∷ ls) events are (inl comment) = packets_all (n + 1) before ls events are comment.1
packets_all n before (l ∷ ls) events are (inr more) = packets_all (n + 1) more.0 ls events (packets_more n before l more.0 are more.2) more.3

nothing_seen : (k : ℕ) (p : Packet) → SeenAt [] k p → ⊥
nothing_seen k p there = cc

pub packets_read : (bytes : List ℕ) (events : List Event) → IsReadingOfEvents bytes events → ArePackets events
packets_read bytes events reading = packets_all 1 [] _ events (λ k p there. absurd (nothing_seen k p there)) reading.told
