-- The format of event files: one event per line, a verb and the five fields of a packet.
use Rattle.std.specs.Prelude.{◌≡◌, ℕ, List, [], ◌∷◌, length, slice_get, Some, ◌⊎◌, codes, decimal}
use Rattle.text_core.specs.Lines.{words}
use Rattle.text_core.specs.ListFormat.{ListFormat, by_lines}
use Rattle.text_core.specs.LineFormat.{HasFault, IsReading}
use Rattle.text_core.specs.declared.faults.ListWhy.{ListWhy}
use Rattle.host_net.specs.declared.packet.Packet.{Packet}
use Rattle.host_net.specs.Packet.{IsPacket}
use Rattle.host_net.specs.Prefix.{address_text}
use Rattle.host_net.specs.ServiceText.{protocol_text}
use Rattle.pkt_core.specs.declared.event.Event.{Event}
use Rattle.pkt_core.specs.declared.event.Event.TheVariants.{Seen, Forget}

-- A. The grammar: the events that a file contains.

-- A verb and the fields of a packet: two addresses, the protocol by its name or its number, two ports.
pub record EncodesPacket (verb : List ℕ) (ws : List (List ℕ)) (p : Packet) : Type 0 where
  pub protocol : List ℕ
  pub named : (protocol ≡ protocol_text p.proto) ⊎ (protocol ≡ decimal p.proto)
  pub written : ws ≡ verb ∷ address_text p.src ∷ address_text p.dst ∷ protocol ∷ decimal p.sport ∷ decimal p.dport ∷ []
  pub is_packet : IsPacket p

-- The tokens of a line encode an event.
abbrev pub EncodesEvent : List (List ℕ) → Event → Type 0
EncodesEvent ws (Seen p) = EncodesPacket (codes "packet") ws p
EncodesEvent ws (Forget p) = EncodesPacket (codes "forget") ws p

-- B. The shape of a line that encodes an event.

-- Six tokens, the first of which is a verb.
abbrev pub AreVerbAndFive : List (List ℕ) → Type 0
AreVerbAndFive ws = (length ws ≡ 6) × ((slice_get ws 0 ≡ Some (codes "packet")) ⊎ (slice_get ws 0 ≡ Some (codes "forget")))

-- C. The file contains at most 1,000,000 events.

-- The list format of event files: at most 1,000,000 events, and at most 16,777,216 bytes.
abbrev pub events_text : ListFormat Event
events_text = record {
  byte_limit = 16777216;
  most = 1000000;
  HasForm = λ line. AreVerbAndFive (words line);
  Tells = λ n line event. EncodesEvent (words line) event;
}

-- The parse result of a file.
abbrev pub IsReadingOfEvents : List ℕ → List Event → Type 0
IsReadingOfEvents bytes events = IsReading (by_lines events_text) bytes events

-- The first error of a file.
abbrev pub IsRefusedInEvents : List ℕ → ℕ → ListWhy → Type 0
IsRefusedInEvents bytes line why = HasFault (by_lines events_text) bytes line why
