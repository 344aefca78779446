-- What a rule may match on besides addresses and states (iptables(8), iptables-extensions(8) on tcp and udp).
use Rattle.std.specs.Prelude.{◌^◌, Bool, true, ◌&&◌, nat_lt, nat_le, IsTrue, List, Option, Some, None}
use Rattle.std.specs.List.{list_all}
use Rattle.host_net.specs.Service.{max_port}
use Rattle.ipt_rules.specs.declared.rule.PortMatch.{PortMatch}
use Rattle.ipt_rules.specs.declared.rule.ProtoMatch.{ProtoMatch}
use Rattle.ipt_rules.specs.declared.rule.Rule.{Rule}
use Rattle.ipt_rules.specs.Chain.{Chain}
use Rattle.ipt_rules.specs.RuleParts.{names_ports}

-- A valid protocol. Its number is not 0, which iptables uses for any protocol.
abbrev pub is_protocol : Option ProtoMatch → Bool
is_protocol None = true
is_protocol (Some part) = nat_lt 0 part.proto && nat_lt part.proto (2 ^ 8)

-- Valid ports: a range in order, with a protocol that has ports.
abbrev pub are_ports : Bool → Option PortMatch → Bool
are_ports named None = true
are_ports named (Some part) = named && (nat_le part.low part.high && nat_le part.high max_port)

abbrev pub is_rule : Rule → Bool
is_rule rule =
    is_protocol rule.proto && (are_ports (names_ports rule.proto) rule.sport && are_ports (names_ports rule.proto) rule.dport)

abbrev pub AreRules : List Chain → Type 0
AreRules chains = IsTrue (list_all (λ x. list_all is_rule x.rules) chains)
