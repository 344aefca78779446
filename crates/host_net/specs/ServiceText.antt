-- Notation of services, and the service that a string denotes.
use Rattle.std.specs.Prelude.{ℕ, Bool, ◌&&◌, ◌||◌, ◌==◌, nat_le, if◌then◌else◌, List, [], ◌∷◌, ◌++◌, map, find, slice_index_or, decimal, codes, bytes_eq, Option}
use Rattle.text_core.specs.Decimal.{numbers_in}
use Rattle.host_net.specs.declared.service.Service.{Service}
use Rattle.host_net.specs.Service.{icmp, tcp, udp, max_port, has_ports, has_all_ports}

-- A protocol by its name, or by its number.
abbrev pub protocol_text : ℕ → List ℕ
protocol_text proto = if proto == icmp then codes "icmp" else if proto == tcp then codes "tcp" else if proto == udp then codes "udp" else decimal proto

-- One port, or the first and the last port of a range.
abbrev pub ports_text : ℕ → ℕ → List ℕ
ports_text low high = if low == high then decimal low else decimal low ++ (codes "-" ++ decimal high)

-- A string denotes a service: all packets of a protocol (`tcp`), or a port or a port range of a protocol with ports (`tcp/80`,
-- `tcp/80-90`).
abbrev pub spells_service : List ℕ → Service → Bool
spells_service text s =
    (has_all_ports s && bytes_eq text (protocol_text s.proto))
    || (has_ports s.proto && (nat_le s.low s.high && (nat_le s.high max_port
    && bytes_eq text (protocol_text s.proto ++ (codes "/" ++ ports_text s.low s.high)))))

-- A protocol with the ports that the numbers specify: all ports, one port, or the range from the first number to the
-- second.
abbrev pub service_with : List ℕ → ℕ → Service
service_with ns proto = record { proto = proto; low = slice_index_or ns 0 0; high = slice_index_or ns 1 (slice_index_or ns 0 max_port) }

-- The service that a string denotes. The only candidates are the services of the three named protocols with the numbers
-- in the string.
unfoldable pub service_of : List ℕ → Option Service
service_of text = find (spells_service text) (map (service_with (numbers_in text)) (icmp ∷ tcp ∷ udp ∷ []))
