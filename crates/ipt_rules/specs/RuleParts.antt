-- Whether a rule matches on a protocol that has ports (iptables-extensions(8) on tcp and udp).
use Rattle.std.specs.Prelude.{Bool, false, not, ◌&&◌, Option, Some, None}
use Rattle.host_net.specs.Service.{has_ports}
use Rattle.ipt_rules.specs.declared.rule.ProtoMatch.{ProtoMatch}

-- The packets have a single protocol, and this protocol has ports.
abbrev pub names_ports : Option ProtoMatch → Bool
names_ports None = false
names_ports (Some part) = not part.negated && has_ports part.proto
