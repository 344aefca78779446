-- The fields of a flow line, as the table of the parser: their names, whether a part is specified already, and the meaning of a value
-- (ovs-ofctl(8), "Flow Syntax"; ovs-fields(7)). Callers do not see this; they use `Grammar` and `Unwritten`.
use Rattle.std.specs.Prelude.{ℕ, Bool, true, if◌then◌else◌, List, [], ◌∷◌, ◌||◌, Option, Some, None, Result, Ok, Err, is_some, codes, bytes_eq}
use Rattle.std.specs.Map.{lookup}
use Rattle.std.specs.Option.{option_map, ok_or}
use Rattle.text_core.specs.inner.Decimal.{number}
use Rattle.text_core.specs.inner.Pieces.{split_once}
use Rattle.host_net.specs.Prefix.{prefix_of}
use Rattle.host_net.specs.Service.{icmp, tcp, udp, max_port}
use Rattle.ofp_rules.specs.declared.entry.FrameKind.{FrameKind}
use Rattle.ofp_rules.specs.declared.entry.FrameKind.TheVariants.{Arp as ArpFrames, Ip as IpFrames}
use Rattle.ofp_read.specs.declared.fault.OfpWhy.{OfpWhy}
use Rattle.ofp_read.specs.declared.fault.OfpWhy.TheVariants.{BadLine, UnknownField, BadValue}
use Rattle.ofp_read.specs.declared.given.Key.{Key}
use Rattle.ofp_read.specs.declared.given.Key.TheVariants.{Priority, Table, FrameType, Source, Destination, Protocol, SourcePort, DestinationPort}
use Rattle.ofp_read.specs.declared.given.Given.{Given}
use Rattle.ofp_read.specs.Grammar.{Part, priority, table, kind, protocol, source, destination, source_port, destination_port}

-- 1. Names: the name of a value ends at the first `=` (61), and a text without one is the name of a frame kind, or of a protocol of IPv4
-- frames.

abbrev pub keys : List (List ℕ × Key)
keys =
    (codes "priority", Priority) ∷ (codes "table", Table) ∷ (codes "dl_type", FrameType) ∷ (codes "nw_src", Source) ∷
    (codes "nw_dst", Destination) ∷ (codes "nw_proto", Protocol) ∷ (codes "tp_src", SourcePort) ∷ (codes "tp_dst", DestinationPort) ∷ []

unfoldable pub key_named : List ℕ → Option Key
key_named name = lookup (bytes_eq name) keys

abbrev pub kinds : List (List ℕ × (FrameKind × Option ℕ))
kinds =
    (codes "ip", (IpFrames, None)) ∷ (codes "arp", (ArpFrames, None)) ∷ (codes "icmp", (IpFrames, Some icmp)) ∷
    (codes "tcp", (IpFrames, Some tcp)) ∷ (codes "udp", (IpFrames, Some udp)) ∷ []

unfoldable pub kind_named : List ℕ → Option (FrameKind × Option ℕ)
kind_named name = lookup (bytes_eq name) kinds

-- 2. Repetition.

abbrev pub part_of : Key → Part
part_of Priority = priority
part_of Table = table
part_of FrameType = kind
part_of Source = source
part_of Destination = destination
part_of Protocol = protocol
part_of SourcePort = source_port
part_of DestinationPort = destination_port

abbrev pub is_given : Given → Part → Bool
is_given given priority = is_some given.priority
is_given given table = given.table
is_given given kind = is_some given.kind
is_given given source = is_some given.src
is_given given destination = is_some given.dst
is_given given protocol = is_some given.proto
is_given given source_port = is_some given.tp_src
is_given given destination_port = is_some given.tp_dst

-- 3. The meaning of a value.

abbrev pub frame_types : List (List ℕ × FrameKind)
frame_types =
    (codes "0x0800", IpFrames) ∷ (codes "0x800", IpFrames) ∷ (codes "0x0806", ArpFrames) ∷ (codes "0x806", ArpFrames) ∷ []

unfoldable pub frame_type : List ℕ → Option FrameKind
frame_type value = lookup (bytes_eq value) frame_types

-- The only table is 0.
abbrev pub with_table : Given → List ℕ → Option Given
with_table given value = if bytes_eq value (codes "0") then Some (record given { table = true }) else None

unfoldable pub with_value : Given → Key → List ℕ → Option Given
with_value given Priority value = option_map (λ n. record given { priority = Some n }) (number 65535 value)
with_value given Table value = with_table given value
with_value given FrameType value = option_map (λ k. record given { kind = Some k }) (frame_type value)
with_value given Source value = option_map (λ p. record given { src = Some p }) (prefix_of value)
with_value given Destination value = option_map (λ p. record given { dst = Some p }) (prefix_of value)
with_value given Protocol value = option_map (λ n. record given { proto = Some n }) (number 255 value)
with_value given SourcePort value = option_map (λ n. record given { tp_src = Some n }) (number max_port value)
with_value given DestinationPort value = option_map (λ n. record given { tp_dst = Some n }) (number max_port value)

-- 4. Adding a field: its name is checked first, then repetition, then its value.

abbrev pub with_key : Given → List ℕ → Option Key → Result Given OfpWhy
with_key given value None = Err UnknownField
with_key given value (Some key) = if is_given given (part_of key) then Err BadLine else ok_or (with_value given key value) BadValue

abbrev pub with_kind : Given → Option (FrameKind × Option ℕ) → Result Given OfpWhy
with_kind given None = Err UnknownField
with_kind given (Some (frames, None)) = if is_some given.kind then Err BadLine else Ok (record given { kind = Some frames })
with_kind given (Some (frames, Some proto)) =
    if is_some given.kind || is_some given.proto then Err BadLine else Ok (record given { kind = Some frames; proto = Some proto })

abbrev pub with_parts : Given → List ℕ → Option (List ℕ × List ℕ) → Result Given OfpWhy
with_parts given text None = with_kind given (kind_named text)
with_parts given text (Some parts) = with_key given parts.1 (key_named parts.0)

abbrev pub with_field : Given → List ℕ → Result Given OfpWhy
with_field given text = with_parts given text (split_once 61 text)

-- The empty text is no field.
abbrev pub with_piece : Given → List ℕ → Result Given OfpWhy
with_piece given [] = Ok given
with_piece given (b ∷ bs) = with_field given (b ∷ bs)
