-- The chains of iptables that have the verdicts of a table of nftables (iptables(8), nft(8)).
use Rattle.std.specs.Prelude.{ℕ, zero, suc, ◌+◌, ◌-◌, ◌^◌, Bool, true, false, nat_le, nat_lt, ◌&&◌, ◌||◌, if◌then◌else◌, ◌↔◌, List, [], ◌∷◌, ◌++◌, Option, Some, None, map, codes, decimal, option_map}
use Rattle.std.specs.List.{flat_map}
use Rattle.std.specs.Option.{option_and_then}
use Rattle.host_net.specs.declared.packet.Packet.{Packet}
use Rattle.host_net.specs.declared.packet.CtState.{CtState}
use Rattle.host_net.specs.declared.prefix.Prefix.{Prefix}
use Rattle.host_net.specs.Packet.{IsPacket}
use Rattle.host_net.specs.Prefix.{prefix_with}
use Rattle.header_space.specs.declared.address_range.AddressRange.{AddressRange}
use Rattle.ipt_rules.specs.declared.rule.AddrMatch.{AddrMatch}
use Rattle.ipt_rules.specs.declared.rule.Policy.TheVariants.{Accept as Accepting, Drop as Dropping}
use Rattle.ipt_rules.specs.declared.rule.PortMatch.{PortMatch as PortRange}
use Rattle.ipt_rules.specs.declared.rule.ProtoMatch.{ProtoMatch}
use Rattle.ipt_rules.specs.declared.rule.Rule.{Rule as ChainRule}
use Rattle.ipt_rules.specs.declared.rule.StateMatch.{StateMatch}
use Rattle.ipt_rules.specs.declared.rule.Target.{Target}
use Rattle.ipt_rules.specs.declared.rule.Target.TheVariants.{Accept as ToAccept, Drop as ToDrop, Jump}
use Rattle.ipt_rules.specs.Chain.{Chain}
use Rattle.ipt_rules.specs.Semantics.{PassesChains}
use Rattle.nft_rules.specs.declared.table.Chain.{Chain as TableChain}
use Rattle.nft_rules.specs.declared.table.Element.{Element}
use Rattle.nft_rules.specs.declared.table.End.{End}
use Rattle.nft_rules.specs.declared.table.End.TheVariants.{Source, Destination}
use Rattle.nft_rules.specs.declared.table.MatchRule.{MatchRule}
use Rattle.nft_rules.specs.declared.table.PortMatch.{PortMatch}
use Rattle.nft_rules.specs.declared.table.Rule.{Rule}
use Rattle.nft_rules.specs.declared.table.Rule.TheVariants.{Map, Match}
use Rattle.nft_rules.specs.declared.table.ServiceMatch.{ServiceMatch}
use Rattle.nft_rules.specs.declared.table.Table.{Table}
use Rattle.nft_rules.specs.declared.table.Verdict.{Verdict}
use Rattle.nft_rules.specs.declared.table.Verdict.TheVariants.{Accept, Drop, Goto}
use Rattle.nft_rules.specs.Semantics.{PassesTable}

-- ---- Intervals of addresses

-- A block consists of the 2 ^ bits addresses from `first` on. All of its addresses lie in the interval.
abbrev pub is_within : ℕ → ℕ → AddressRange → Bool
is_within bits first range = nat_le range.first first && nat_le (first + 2 ^ bits) (range.last + 1)

-- No address of the block lies in the interval.
abbrev pub is_outside : ℕ → ℕ → AddressRange → Bool
is_outside bits first range = nat_le (first + 2 ^ bits) range.first || nat_lt range.last first

-- The prefixes of the addresses of the interval in a block. If the block lies within the interval, its prefix is the only one. If the block
-- lies outside, there are none. Otherwise the prefixes are those of the first half and of the second half.
unfoldable pub cover : ℕ → ℕ → AddressRange → List Prefix
cover zero first range = if is_within 0 first range then prefix_with first 32 ∷ [] else []
cover (suc bits) first range =
    if is_within (suc bits) first range then prefix_with first (32 - suc bits) ∷ []
    else (if is_outside (suc bits) first range then [] else cover bits first range ++ cover bits (first + 2 ^ bits) range)

-- The prefixes of which the interval consists, in ascending order. The block of all addresses begins at 0.
abbrev pub prefixes_of : AddressRange → List Prefix
prefixes_of range = cover 32 0 range

-- ---- Rules

-- Chain c of a table follows the three built-in chains.
abbrev pub chain_number : ℕ → ℕ
chain_number c = c + 3

-- `goto` is a jump, since no chain of a table returns.
abbrev pub target_of : Verdict → Target
target_of Accept = ToAccept
target_of Drop = ToDrop
target_of (Goto c) = Jump (chain_number c)

-- A match at the source, if it is at this end.
abbrev pub at_source : {A : Type 0} → End → A → Option A
at_source Source part = Some part
at_source Destination part = None

-- A match at the destination, if it is at this end.
abbrev pub at_destination : {A : Type 0} → End → A → Option A
at_destination Source part = None
at_destination Destination part = Some part

-- The rule for all packets.
abbrev pub every_packet : Target → ChainRule
every_packet target = record { src = None; dst = None; proto = None; sport = None; dport = None; state = None; target = target }

abbrev pub address_match : Prefix → AddrMatch
address_match prefix = record { prefix = prefix; negated = false }

-- The rule for the packets whose address at this end the prefix covers.
abbrev pub prefix_rule : End → Target → Prefix → ChainRule
prefix_rule end target prefix =
    record (every_packet target) { src = at_source end (address_match prefix); dst = at_destination end (address_match prefix) }

-- An element of a map has a rule for each prefix of its interval.
abbrev pub element_rules : End → Element → List ChainRule
element_rules end e = map (prefix_rule end (target_of e.verdict)) (prefixes_of e.range)

-- `ct state established`, if the rule has this match.
abbrev pub state_part : Bool → Option StateMatch
state_part false = None
state_part true = Some (record { new = false; established = true; negated = false })

abbrev pub port_range : PortMatch → PortRange
port_range m = record { low = m.low; high = m.high; negated = false }

abbrev pub source_ports : Option PortMatch → Option PortRange
source_ports ports = option_and_then (λ m. at_source m.end (port_range m)) ports

abbrev pub destination_ports : Option PortMatch → Option PortRange
destination_ports ports = option_and_then (λ m. at_destination m.end (port_range m)) ports

-- The port match of a service match, if it has one.
abbrev pub ports_in : Option ServiceMatch → Option PortMatch
ports_in service = option_and_then (λ s. s.ports) service

abbrev pub protocol_part : Option ServiceMatch → Option ProtoMatch
protocol_part service = option_map (λ s. record { proto = s.proto; negated = false }) service

-- The rule for the packets that all matches of a rule fit.
abbrev pub match_rule : MatchRule → ChainRule
match_rule r = record {
  src = None;
  dst = None;
  proto = protocol_part r.service;
  sport = source_ports (ports_in r.service);
  dport = destination_ports (ports_in r.service);
  state = state_part r.established;
  target = target_of r.verdict;
}

-- The rules for a rule of the table.
abbrev pub rules_of_rule : Rule → List ChainRule
rules_of_rule (Map m) = flat_map (element_rules m.end) m.elements.items
rules_of_rule (Match r) = match_rule r ∷ []

abbrev pub rules_of_rules : List Rule → List ChainRule
rules_of_rules rules = flat_map rules_of_rule rules

-- ---- Chains

-- The name of chain c: `chain_` followed by c. The names of a table may be too long for a chain of iptables.
abbrev pub chain_name : ℕ → List ℕ
chain_name c = codes "chain_" ++ decimal c

-- The chain with the rules of chain c and a last rule that drops: a packet without a verdict is dropped.
abbrev pub chain_of : ℕ → TableChain → Chain
chain_of c x = record { name = chain_name c; policy = None; rules = rules_of_rules x.rules.items ++ every_packet ToDrop ∷ [] }

-- The chains from the one with index c on.
abbrev pub chains_from : ℕ → List TableChain → List Chain
chains_from c [] = []
chains_from c (x ∷ xs) = chain_of c x ∷ chains_from (c + 1) xs

-- FORWARD has the rules of the base chain. INPUT and OUTPUT accept.
abbrev pub built_in_of : List ChainRule → List Chain
built_in_of rules =
    record { name = codes "INPUT"; policy = Some Accepting; rules = [] }
    ∷ record { name = codes "FORWARD"; policy = Some Dropping; rules = rules }
    ∷ record { name = codes "OUTPUT"; policy = Some Accepting; rules = [] }
    ∷ []

-- The chains of a table.
abbrev pub chains_of : Table → List Chain
chains_of table = built_in_of (rules_of_rules table.forward.items) ++ chains_from 0 table.chains.items

-- ---- Verdicts

-- The chains forward exactly the packets that the table forwards, in each state.
abbrev pub HaveSameVerdicts : Table → List Chain → Type 0
HaveSameVerdicts table chains =
    (state : CtState) (p : Packet) (passes : Bool) → IsPacket p → (PassesTable table state p passes ↔ PassesChains chains state p passes)
