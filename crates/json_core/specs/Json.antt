-- JSON values, hosts, flows and services (RFC 8259; docs/QUERIES.md). Names of hosts have only letters, digits, `_` and `-`, and texts of
-- prefixes and services have only these and `.` and `/`, so these strings have no escape.
use Rattle.std.specs.Prelude.{ℕ, ◌+◌, ◌==◌, ◌||◌, Bool, true, false, List, [], ◌∷◌, ◌++◌, slice_get, codes, decimal, if◌then◌else◌, Option, None, Some}
use Rattle.std.specs.List.{flat_map}
use Rattle.std.specs.Option.{option_map_or}
use Rattle.flow_set.specs.declared.flow.Flow.{Flow}
use Rattle.host_net.specs.Host.{Host, rest_of}
use Rattle.host_net.specs.Prefix.{prefix_text}
use Rattle.host_net.specs.Service.{has_all_ports}
use Rattle.host_net.specs.ServiceText.{ports_text, protocol_text}
use Rattle.host_net.specs.declared.prefix.Prefix.{Prefix}
use Rattle.host_net.specs.declared.service.Service.{Service}
use Rattle.report_core.specs.Names.{host_name}

-- ---- values

-- A boolean.
abbrev pub bool_json : Bool → List ℕ
bool_json true = codes "true"
bool_json false = codes "false"

-- The number of an invariant, a rule or an entry, counted from 1.
abbrev pub number_json : ℕ → List ℕ
number_json number = decimal (number + 1)

-- A string without escapes.
unfoldable pub string_json : List ℕ → List ℕ
string_json bytes = codes "\"" ++ (bytes ++ codes "\"")

-- A printing byte of a string has to be escaped if it is a quotation mark or a backslash (RFC 8259, section 7).
abbrev pub is_escaped : ℕ → Bool
is_escaped b = (b == 34) || (b == 92)

-- A printing byte of a string, escaped by a backslash if it has to be.
unfoldable pub escaped_byte : ℕ → List ℕ
escaped_byte b = if is_escaped b then 92 ∷ b ∷ [] else b ∷ []

-- A string of printing bytes.
unfoldable pub escaped_json : List ℕ → List ℕ
escaped_json bytes = codes "\"" ++ (flat_map escaped_byte bytes ++ codes "\"")

-- The separator before an item of an array, which is the first or a later one.
abbrev pub comma : (first : Bool) → List ℕ
comma true = []
comma false = codes ","

-- Items with commas between them.
unfoldable pub separated : {A : Type 0} → (A → List ℕ) → List A → List ℕ
separated item [] = []
separated item (x ∷ xs) = item x ++ flat_map (λ y. codes "," ++ item y) xs

-- An array.
unfoldable pub array_json : {A : Type 0} → (A → List ℕ) → List A → List ℕ
array_json item xs = codes "[" ++ (separated item xs ++ codes "]")

abbrev pub is_nothing : {A : Type 0} → List A → Bool
is_nothing [] = true
is_nothing (x ∷ xs) = false

-- ---- hosts, flows and services

-- A host by its name: "web".
unfoldable pub host_json : List Host → ℕ → List ℕ
host_json hosts i = string_json (host_name hosts i)

-- An owner: a host by its name, or null for the addresses that no host owns.
abbrev pub owner_json : List Host → Option ℕ → List ℕ
owner_json hosts None = codes "null"
owner_json hosts (Some host) = host_json hosts host

-- A flow by the names of its hosts: ["web","db"].
unfoldable pub flow_json : List Host → Flow → List ℕ
flow_json hosts f = codes "[" ++ (host_json hosts f.from ++ (codes "," ++ (host_json hosts f.to ++ codes "]")))

-- A prefix: "10.0.1.0/24".
abbrev pub prefix_json : Prefix → List ℕ
prefix_json p = string_json (prefix_text p)

-- The ports of a service: none written for all ports of the protocol, and otherwise /443 or /80-90.
abbrev pub service_ports_text : Service → List ℕ
service_ports_text s = if has_all_ports s then [] else codes "/" ++ ports_text s.low s.high

-- A service: "icmp", "tcp/443", "udp/80-90".
unfoldable pub service_json : Service → List ℕ
service_json s = codes "\"" ++ (protocol_text s.proto ++ (service_ports_text s ++ codes "\""))

-- The host with this number is the rest host.
abbrev pub is_rest : List Host → ℕ → Bool
is_rest hosts i = option_map_or (λ h. h == i) (rest_of hosts) false

-- A host with its addresses: {"name":"web","at":["10.0.1.0/24"],"rest":false}.
unfoldable pub host_entry_json : List Host → ℕ → List ℕ
host_entry_json hosts i =
    codes "{\"name\":" ++ (host_json hosts i ++ (codes ",\"at\":" ++ (array_json prefix_json (option_map_or (λ h. h.prefixes) (slice_get hosts i) [])
    ++ (codes ",\"rest\":" ++ (bool_json (is_rest hosts i) ++ codes "}")))))
