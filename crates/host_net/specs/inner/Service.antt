-- The services to which a flow may be restricted.
use Rattle.std.specs.Prelude.{Bool, ◌&&◌, ◌||◌, ◌==◌, nat_le}
use Rattle.host_net.specs.declared.service.Service.{Service}
use Rattle.host_net.specs.Service.{has_all_ports, has_ports, icmp, max_port}

-- A valid service: a nonempty port range of TCP or UDP, or all of ICMP.
abbrev pub is_service : Service → Bool
is_service s = nat_le s.low s.high && (nat_le s.high max_port && (has_ports s.proto || ((s.proto == icmp) && has_all_ports s)))
