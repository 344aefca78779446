-- Parsing a line of an event file, step by step. Callers do not see these steps; they use the grammar and the first error.
use Rattle.std.specs.Prelude.{ℕ, if◌then◌else◌, List, [], ◌∷◌, Option, Some, Result, Err, codes, bytes_eq}
use Rattle.std.specs.Option.{option_map, option_or, ok_or}
use Rattle.text_core.specs.inner.Decimal.{number}
use Rattle.text_core.specs.Steps.{◌>>=◌}
use Rattle.text_core.specs.declared.faults.ListWhy.{ListWhy}
use Rattle.text_core.specs.declared.faults.ListWhy.TheVariants.{BadLine, BadValue}
use Rattle.host_net.specs.declared.packet.Packet.{Packet}
use Rattle.host_net.specs.Service.{max_port}
use Rattle.host_net.specs.inner.PrefixSteps.{address_of}
use Rattle.host_net.specs.inner.ServiceSteps.{protocol_of as named_protocol}
use Rattle.pkt_core.specs.declared.event.Event.{Event}
use Rattle.pkt_core.specs.declared.event.Event.TheVariants.{Seen, Forget}

-- A protocol by its name, or by its number.
abbrev pub protocol_of : List ℕ → Option ℕ
protocol_of word = option_or (named_protocol word) (number 255 word)

-- The packet of five tokens.
unfoldable pub packet_of : List ℕ → List ℕ → List ℕ → List ℕ → List ℕ → Option Packet
packet_of src dst protocol sport dport = do
  a ← address_of src
  b ← address_of dst
  n ← protocol_of protocol
  x ← number max_port sport
  y ← number max_port dport
  Some (record { src = a; dst = b; proto = n; sport = x; dport = y })

-- The event of a verb: a packet is seen, or its connection is forgotten.
unfoldable pub event_by : List ℕ → Option Packet → Result Event ListWhy
event_by verb p =
    if bytes_eq verb (codes "packet") then ok_or (option_map Seen p) BadValue
    else if bytes_eq verb (codes "forget") then ok_or (option_map Forget p) BadValue
    else Err BadLine

-- The event of a line's tokens. Any other number of tokens is a bad line.
unfoldable pub event_of : List (List ℕ) → Result Event ListWhy
event_of (verb ∷ src ∷ dst ∷ protocol ∷ sport ∷ dport ∷ []) = event_by verb (packet_of src dst protocol sport dport)
event_of _ = Err BadLine
