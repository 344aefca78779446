-- The layout of a policy as iptables chains (docs/TEXTS.md, the text of the rules). Hosts are identified by their numbers.
use Rattle.std.specs.Prelude.{ℕ, ◌+◌, Bool, true, false, not, ◌&&◌, ◌||◌, if◌then◌else◌, List, [], ◌∷◌, ◌++◌, Option, Some, None, length, map, codes, decimal, option_map}
use Rattle.std.specs.List.{flat_map, range_with_len}
use Rattle.std.specs.Option.{option_map_or, option_and_then}
use Rattle.host_net.specs.declared.prefix.Prefix.{Prefix}
use Rattle.host_net.specs.declared.service.Service.{Service}
use Rattle.host_net.specs.Host.{Host, rest_of}
use Rattle.host_net.specs.Service.{has_all_ports, is_whole, service_matches}
use Rattle.pkt_core.specs.FlowPolicy.{FlowPolicy}
use Rattle.ipt_rules.specs.declared.rule.AddrMatch.{AddrMatch}
use Rattle.ipt_rules.specs.declared.rule.PortMatch.{PortMatch}
use Rattle.ipt_rules.specs.declared.rule.ProtoMatch.{ProtoMatch}
use Rattle.ipt_rules.specs.declared.rule.StateMatch.{StateMatch}
use Rattle.ipt_rules.specs.declared.rule.Rule.{Rule}
use Rattle.ipt_rules.specs.declared.rule.Target.{Target}
use Rattle.ipt_rules.specs.declared.rule.Target.TheVariants.{Accept, Drop, Jump}
use Rattle.ipt_rules.specs.declared.rule.Policy.TheVariants.{Accept as Accepting, Drop as Dropping}
use Rattle.ipt_rules.specs.Chain.{Chain}
use Rattle.emit_core.specs.declared.direction.Direction.{Direction}
use Rattle.emit_core.specs.declared.direction.Direction.TheVariants.{Outbound, Inbound}
use Rattle.emit_core.specs.Directions.{connects, other_direction, services_on}

-- The address match of a rule for a prefix. Without a prefix the rule has no address match.
abbrev pub match_prefix : Option Prefix → Option AddrMatch
match_prefix q = option_map (λ x. record { prefix = x; negated = false }) q

-- The state match of a rule for answers.
abbrev pub match_established : Option StateMatch
match_established = Some (record { new = false; established = true; negated = false })

-- The source match of a rule: the address of the other host is the source of an inbound packet.
abbrev pub source_part : Direction → Option AddrMatch → Option AddrMatch
source_part Outbound part = None
source_part Inbound part = part

-- The destination match of a rule: the address of the other host is the destination of an outbound packet.
abbrev pub destination_part : Direction → Option AddrMatch → Option AddrMatch
destination_part Outbound part = part
destination_part Inbound part = None

-- A rule that matches the address of the other host, and optionally the state.
abbrev pub match_peer : Direction → Option Prefix → Option StateMatch → Target → Rule
match_peer side q state target = record {
  src = source_part side (match_prefix q);
  dst = destination_part side (match_prefix q);
  proto = None;
  sport = None;
  dport = None;
  state = state;
  target = target;
}

-- A rule that matches the source of a packet.
abbrev pub from_source : Option Prefix → Target → Rule
from_source q target = match_peer Inbound q None target

-- The rules for each host, from number k on, and each of its prefixes, in order. The rest host has no prefixes.
abbrev pub for_each_prefix : (ℕ → Prefix → List Rule) → ℕ → List Host → List Rule
for_each_prefix written k [] = []
for_each_prefix written k (h ∷ hs) = flat_map (written k) h.prefixes ++ for_each_prefix written (k + 1) hs

-- The chain of host i follows the three built-in chains.
abbrev pub chain_of : ℕ → ℕ
chain_of i = i + 3

-- A jump to the chain of host i for a source prefix.
abbrev pub jump_from : ℕ → Prefix → List Rule
jump_from i q = from_source (Some q) (Jump (chain_of i)) ∷ []

-- The jump to the chain of the rest host, if there is one, for all remaining sources.
abbrev pub rest_jump : Option ℕ → List Rule
rest_jump rest = option_map_or (λ r. from_source None (Jump (chain_of r)) ∷ []) rest []

-- FORWARD jumps to the chain of the host that owns the source.
abbrev pub forward_rules : List Host → List Rule
forward_rules hosts = for_each_prefix jump_from 0 hosts ++ rest_jump (rest_of hosts)

-- The protocol match of a rule for a service.
abbrev pub protocol_part : Option Service → Option ProtoMatch
protocol_part n = option_map (λ s. record { proto = s.proto; negated = false }) n

-- The port match of a rule for a service, unless the service has all ports.
abbrev pub ports_of_service : Service → Option PortMatch
ports_of_service s = if has_all_ports s then None else Some (record { low = s.low; high = s.high; negated = false })

-- The port match of a rule for a service, if there is a service.
abbrev pub port_part : Option Service → Option PortMatch
port_part n = option_and_then ports_of_service n

-- The rule for packets of the flow: the destination port is a port of the service.
abbrev pub to_service : Direction → Option Prefix → Option Service → Rule
to_service side q n = record (match_peer side q None Accept) { proto = protocol_part n; dport = port_part n }

-- The rule for their answers: the source port is a port of the service.
abbrev pub from_service : Direction → Option Prefix → Option Service → Rule
from_service side q n = record (match_peer side q match_established Accept) { proto = protocol_part n; sport = port_part n }

-- The flow that host i has with host j in this direction is in the set, and it is unrestricted.
abbrev pub connects_unrestricted : Direction → FlowPolicy → ℕ → ℕ → Bool
connects_unrestricted side policy i j = connects side policy.permitted i j && is_whole (services_on side policy.site.services i j)

-- The rules that accept the packets of the flow between host i and host j at prefix q of host j, one for each service.
abbrev pub accepts_flow : Direction → FlowPolicy → ℕ → ℕ → Option Prefix → List Rule
accepts_flow side policy i j q =
    if connects side policy.permitted i j then map (to_service side q) (service_matches (services_on side policy.site.services i j)) else []

-- The rules that accept answers to its reverse, one for each service of the reverse, unless all packets are accepted
-- anyway.
abbrev pub accepts_answers : Direction → FlowPolicy → ℕ → ℕ → Option Prefix → List Rule
accepts_answers side policy i j q =
    if connects (other_direction side) policy.stateful i j && not (connects_unrestricted side policy i j)
    then map (from_service side q) (service_matches (services_on (other_direction side) policy.site.services i j)) else []

-- The rules that accept packets between host i and host j at prefix q of host j: those of the flow, then answers.
abbrev pub accepts : Direction → FlowPolicy → ℕ → ℕ → Option Prefix → List Rule
accepts side policy i j q = accepts_flow side policy i j q ++ accepts_answers side policy i j q

-- The chain of host i is open if it accepts some packet to the rest host, or from it.
abbrev pub is_open : Direction → FlowPolicy → ℕ → Option ℕ → Bool
is_open side policy i rest = option_map_or (λ r. connects side policy.permitted i r || connects (other_direction side) policy.stateful i r) rest false

-- The rules of an open chain that drop, at the prefixes of host j, the packets that would otherwise be accepted as
-- packets of the rest host.
abbrev pub drops : Direction → FlowPolicy → ℕ → Option ℕ → ℕ → Prefix → List Rule
drops side policy i rest j q =
    if is_open side policy i rest && not (connects_unrestricted side policy i j) then match_peer side (Some q) None Drop ∷ [] else []

-- The rules of host i for one prefix of host j.
abbrev pub to_prefix : Direction → FlowPolicy → ℕ → Option ℕ → ℕ → Prefix → List Rule
to_prefix side policy i rest j q = accepts side policy i j (Some q) ++ drops side policy i rest j q

-- The rules of host i for the rest host.
abbrev pub to_rest : Direction → FlowPolicy → ℕ → Option ℕ → List Rule
to_rest side policy i rest = option_map_or (λ r. accepts side policy i r None) rest []

-- The chain of host i for outbound or for inbound packets, by the address of the other host. Packets that no rule accepts are dropped.
abbrev pub host_rules : Direction → FlowPolicy → ℕ → List Rule
host_rules side policy i =
    for_each_prefix (to_prefix side policy i (rest_of policy.site.hosts)) 0 policy.site.hosts
    ++ (to_rest side policy i (rest_of policy.site.hosts) ++ match_peer side None None Drop ∷ [])

-- The name of the chain of host i: `H` followed by i.
abbrev pub host_chain_name : ℕ → List ℕ
host_chain_name i = codes "H" ++ decimal i

-- The chain of host i, for outbound packets.
abbrev pub host_chain : FlowPolicy → ℕ → Chain
host_chain policy i = record { name = host_chain_name i; policy = None; rules = host_rules Outbound policy i }

-- The built-in chains: INPUT and OUTPUT are empty with policy ACCEPT, FORWARD has policy DROP.
abbrev pub entry_chains : List Host → List Chain
entry_chains hosts =
    record { name = codes "INPUT"; policy = Some Accepting; rules = [] }
    ∷ record { name = codes "FORWARD"; policy = Some Dropping; rules = forward_rules hosts }
    ∷ record { name = codes "OUTPUT"; policy = Some Accepting; rules = [] }
    ∷ []

-- All chains of a policy: the built-in ones, and one for each host.
abbrev pub layout : FlowPolicy → List Chain
layout policy = entry_chains policy.site.hosts ++ map (host_chain policy) (range_with_len 0 (length policy.site.hosts))
