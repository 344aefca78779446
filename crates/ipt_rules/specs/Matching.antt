-- Whether a rule matches a packet (iptables(8), iptables-extensions(8) on conntrack).
use Rattle.std.specs.Prelude.{ℕ, Bool, true, ◌&&◌, ◌==◌, nat_le, not, if◌then◌else◌, Option, Some, None}
use Rattle.host_net.specs.declared.packet.Packet.{Packet}
use Rattle.host_net.specs.declared.packet.CtState.{CtState}
use Rattle.host_net.specs.declared.packet.CtState.TheVariants.{New, Established}
use Rattle.host_net.specs.Prefix.{covers}
use Rattle.ipt_rules.specs.declared.rule.AddrMatch.{AddrMatch}
use Rattle.ipt_rules.specs.declared.rule.PortMatch.{PortMatch}
use Rattle.ipt_rules.specs.declared.rule.ProtoMatch.{ProtoMatch}
use Rattle.ipt_rules.specs.declared.rule.StateMatch.{StateMatch}
use Rattle.ipt_rules.specs.declared.rule.Rule.{Rule}

-- The result of a match, inverted if the match has a `!`.
abbrev pub turned : Bool → Bool → Bool
turned negated answer = if negated then not answer else answer

-- An address match holds if its prefix covers the address; `!` inverts it. An absent match always holds.
abbrev pub address_matches : Option AddrMatch → ℕ → Bool
address_matches None address = true
address_matches (Some part) address = turned part.negated (covers part.prefix address)

-- A protocol match holds if its protocol is that of the packet; `!` inverts it. An absent match always holds.
abbrev pub protocol_matches : Option ProtoMatch → ℕ → Bool
protocol_matches None proto = true
protocol_matches (Some part) proto = turned part.negated (part.proto == proto)

-- A port match holds if the port of the packet is in the range from `low` to `high`; `!` inverts it. An absent match always
-- holds.
abbrev pub port_matches : Option PortMatch → ℕ → Bool
port_matches None port = true
port_matches (Some part) port = turned part.negated (nat_le part.low port && nat_le port part.high)

-- The flag of a state.
abbrev pub has_state : StateMatch → CtState → Bool
has_state part New = part.new
has_state part Established = part.established

-- A state match holds if the flag of the packet's state is set; `!` inverts it. An absent match always holds.
abbrev pub state_matches : Option StateMatch → CtState → Bool
state_matches None state = true
state_matches (Some part) state = turned part.negated (has_state part state)

-- A rule matches a packet in a state if each of its matches holds.
abbrev pub matches : Packet → CtState → Rule → Bool
matches packet state rule =
    protocol_matches rule.proto packet.proto
    && (port_matches rule.sport packet.sport
    && (port_matches rule.dport packet.dport
    && (address_matches rule.src packet.src && (address_matches rule.dst packet.dst && state_matches rule.state state))))
