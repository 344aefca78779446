-- Parsing a service, step by step.
use Rattle.std.specs.Prelude.{ℕ, nat_lt, if◌then◌else◌, List, codes, bytes_eq, Option, Some, None}
use Rattle.text_core.specs.inner.Decimal.{number}
use Rattle.text_core.specs.Steps.{◌>>=◌}
use Rattle.text_core.specs.inner.Pieces.{split_once}
use Rattle.host_net.specs.declared.service.Service.{Service}
use Rattle.host_net.specs.Service.{icmp, tcp, udp, max_port, has_ports}

abbrev pub protocol_of : List ℕ → Option ℕ
protocol_of name =
    if bytes_eq name (codes "icmp") then Some icmp else if bytes_eq name (codes "tcp") then Some tcp else if bytes_eq name (codes "udp") then Some udp else None

-- The ports that a string denotes, given the two parts that a dash separates, or a single port.
abbrev pub ports_of_parts : List ℕ → Option (List ℕ × List ℕ) → Option (ℕ × ℕ)
ports_of_parts text None = do
  port ← number max_port text
  Some (port, port)
ports_of_parts text (Some parts) = do
  low ← number max_port parts.0
  high ← number max_port parts.1
  if nat_lt low high then Some (low, high) else None

-- A port; or two ports separated by a dash (45), the first less than the second.
unfoldable pub ports_of : List ℕ → Option (ℕ × ℕ)
ports_of text = ports_of_parts text (split_once 45 text)

-- The service of a protocol with these ports.
abbrev pub with_ports : ℕ → ℕ × ℕ → Option Service
with_ports proto ports = if has_ports proto then Some (record { proto = proto; low = ports.0; high = ports.1 }) else None

-- The service that a string denotes, given the protocol and the ports that a slash separates, or a protocol only.
abbrev pub service_of_parts : List ℕ → Option (List ℕ × List ℕ) → Option Service
service_of_parts text None = do
  proto ← protocol_of text
  Some (record { proto = proto; low = 0; high = max_port })
service_of_parts text (Some parts) = do
  proto ← protocol_of parts.0
  ports ← ports_of parts.1
  with_ports proto ports

-- A protocol; or a protocol, a slash (47) and its ports.
unfoldable pub service_by_parts : List ℕ → Option Service
service_by_parts text = service_of_parts text (split_once 47 text)
