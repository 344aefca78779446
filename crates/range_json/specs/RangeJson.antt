-- Ranges of services and packets as JSON (docs/QUERIES.md). Addresses have only digits and dots, so no string has an escape.
use Rattle.std.specs.Prelude.{ℕ, ◌/◌, ◌%◌, List, ◌++◌, Option, None, Some, codes, decimal}
use Rattle.host_net.specs.Prefix.{address_text}
use Rattle.host_net.specs.declared.packet.Packet.{Packet}
use Rattle.pass_core.specs.Passing.{is_wholly}
use Rattle.pass_core.specs.declared.passing_range.PassingRange.{PassingRange}
use Rattle.json_core.specs.Json.{bool_json}

-- A service, by its protocol and its port: [6,80].
unfoldable pub service_number_json : ℕ → List ℕ
service_number_json n = codes "[" ++ (decimal (n / 65536) ++ (codes "," ++ (decimal (n % 65536) ++ codes "]")))

-- A packet: {"src":"10.0.1.10","dst":"10.0.2.10","proto":6,"sport":0,"dport":80}.
unfoldable pub header_json : Packet → List ℕ
header_json p =
    codes "{\"src\":\"" ++ (address_text p.src ++ (codes "\",\"dst\":\"" ++ (address_text p.dst ++ (codes "\",\"proto\":" ++ (decimal p.proto
    ++ (codes ",\"sport\":" ++ (decimal p.sport ++ (codes ",\"dport\":" ++ (decimal p.dport ++ codes "}")))))))))

-- A packet, or null.
abbrev pub header_or_null : Option Packet → List ℕ
header_or_null None = codes "null"
header_or_null (Some p) = header_json p

-- The first three members of an object, for a range of services: {"low":[6,80],"high":[6,90],"whole":true.
unfoldable pub range_json : PassingRange → List ℕ
range_json r =
    codes "{\"low\":" ++ (service_number_json r.low ++ (codes ",\"high\":" ++ (service_number_json r.high ++ (codes ",\"whole\":" ++ bool_json (is_wholly r)))))
