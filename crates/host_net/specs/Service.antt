-- Services, to which flows may be restricted: a protocol and a range of destination ports (TCP: RFC 9293, section 3.1; UDP: RFC 768).
use Rattle.std.specs.Prelude.{ℕ, Bool, true, false, ◌&&◌, ◌||◌, ◌==◌, nat_le, List, [], ◌∷◌, map, Option, Some, None}
use Rattle.std.specs.List.{list_any}
use Rattle.host_net.specs.declared.packet.Packet.{Packet}
use Rattle.host_net.specs.declared.service.Service.{Service}

-- The numbers of three protocols (IANA, Assigned Internet Protocol Numbers).
abbrev pub icmp : ℕ
icmp = 1

abbrev pub tcp : ℕ
tcp = 6

abbrev pub udp : ℕ
udp = 17

-- The greatest port number.
abbrev pub max_port : ℕ
max_port = 65535

-- A service matches a packet of its protocol whose destination port is in its range.
abbrev pub serves : Service → Packet → Bool
serves s p = (s.proto == p.proto) && (nat_le s.low p.dport && nat_le p.dport s.high)

-- The protocol has ports, so a service may select a port range.
abbrev pub has_ports : ℕ → Bool
has_ports proto = (proto == tcp) || (proto == udp)

-- The protocol has a name.
abbrev pub has_name : ℕ → Bool
has_name proto = (proto == icmp) || has_ports proto

-- The service matches every packet of its protocol.
abbrev pub has_all_ports : Service → Bool
has_all_ports s = (s.low == 0) && (s.high == max_port)

-- The services of a flow match the packet: one of them matches, or the list is empty and the flow is unrestricted.
abbrev pub is_served : List Service → Packet → Bool
is_served [] p = true
is_served (s ∷ ss) p = list_any (λ t. serves t p) (s ∷ ss)

-- A flow with these services is unrestricted.
abbrev pub is_whole : List Service → Bool
is_whole [] = true
is_whole (s ∷ ss) = false

-- The restrictions of a flow with these services, one for each service. An unrestricted flow has the single restriction
-- `None`.
abbrev pub service_matches : List Service → List (Option Service)
service_matches [] = None ∷ []
service_matches (s ∷ ss) = map (λ t. Some t) (s ∷ ss)
