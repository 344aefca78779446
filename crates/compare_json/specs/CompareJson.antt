-- The answer of `compare` as JSON (docs/QUERIES.md). Texts of packets have only letters, digits, spaces and dots, so no string has an
-- escape.
use Rattle.std.specs.Prelude.{ℕ, Bool, true, false, List, [], ◌++◌, codes, Option, None, Some}
use Rattle.audit_core.specs.FindingText.{packet_text}
use Rattle.audit_core.specs.declared.difference.Difference.{Difference}
use Rattle.audit_core.specs.declared.finding.Trace.{Trace}
use Rattle.host_net.specs.Host.{Host}
use Rattle.host_net.specs.declared.packet.Packet.{Packet}
use Rattle.json_core.specs.Json.{array_json, bool_json, is_nothing, owner_json, string_json}

-- The kind of a list of packets, by its second and its third packet: a new packet, an answer to the packet before it, or a later packet
-- of a connection that was answered.
abbrev pub list_text : (second third : Option Packet) → List ℕ
list_text None third = codes "new"
list_text (Some packet) None = codes "answer"
list_text (Some packet) (Some last) = codes "later"

-- What the rules do with the last packet.
abbrev pub rules_text : (forwards : Bool) → List ℕ
rules_text true = codes "forward"
rules_text false = codes "drop"

-- A packet seen, as the line of an events file has it: "packet 10.0.1.10 10.0.2.10 6 0 80".
abbrev pub packet_json : Packet → List ℕ
packet_json p = string_json (packet_text p)

-- A packet after others, if there is one.
abbrev pub later_packet_json : Option Packet → List ℕ
later_packet_json None = []
later_packet_json (Some p) = codes "," ++ packet_json p

-- The packets of a trace, in the order in which they are seen.
unfoldable pub events_json : Trace → List ℕ
events_json t = codes "[" ++ (packet_json t.first ++ (later_packet_json t.second ++ (later_packet_json t.third ++ codes "]")))

-- A difference: {"from":"web","to":null,"list":"new","rules":"forward","events":["packet 10.0.1.10 10.0.2.10 6 0 80"]}.
unfoldable pub difference_json : List Host → Difference → List ℕ
difference_json hosts d =
    codes "{\"from\":" ++ (owner_json hosts d.from ++ (codes ",\"to\":" ++ (owner_json hosts d.to
    ++ (codes ",\"list\":" ++ (string_json (list_text d.trace.second d.trace.third) ++ (codes ",\"rules\":" ++ (string_json (rules_text d.trace.forwards)
    ++ (codes ",\"events\":" ++ (events_json d.trace ++ codes "}")))))))))

-- The answer of `compare`: the version of the format, whether there is no difference, and all differences.
unfoldable pub compare_json : List Host → List Difference → List ℕ
compare_json hosts differences =
    codes "{\"version\":1,\"equal\":" ++ (bool_json (is_nothing differences) ++ (codes ",\"differences\":" ++ (array_json (difference_json hosts) differences ++ codes "}\n")))
