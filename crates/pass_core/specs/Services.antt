-- Services: pairs of a protocol and a destination port. They are ordered by protocol, then by port.
use Rattle.std.specs.Prelude.{ℕ, ◌+◌, ◌*◌}
use Rattle.host_net.specs.declared.packet.Packet.{Packet}

-- The service of a packet is its protocol and its destination port, encoded as one number.
abbrev pub service_of : Packet → ℕ
service_of p = p.proto * 65536 + p.dport

-- The number of services: 256 protocols with 65,536 ports each. The number of each service is less.
abbrev pub service_count : ℕ
service_count = 16777216
