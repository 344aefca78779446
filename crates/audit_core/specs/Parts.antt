-- The parts that a description and rules name: prefixes of addresses, protocols and ranges of ports.
use Rattle.std.specs.Prelude.{ℕ, List, [], ◌∷◌, ◌++◌, Option, Some, None, map, length}
use Rattle.std.specs.List.{flat_map}
use Rattle.host_net.specs.declared.prefix.Prefix.{Prefix}
use Rattle.host_net.specs.declared.service.Service.{Service}
use Rattle.host_net.specs.Hosts.{all_prefixes}
use Rattle.host_net.specs.Services.{services_of}
use Rattle.host_net.specs.Site.{Site}
use Rattle.flow_set.specs.EveryFlow.{every_flow}
use Rattle.ipt_rules.specs.declared.rule.AddrMatch.{AddrMatch}
use Rattle.ipt_rules.specs.declared.rule.PortMatch.{PortMatch}
use Rattle.ipt_rules.specs.declared.rule.ProtoMatch.{ProtoMatch}
use Rattle.ipt_rules.specs.declared.rule.Rule.{Rule}
use Rattle.ipt_rules.specs.Rules.{all_rules}
use Rattle.ofp_rules.specs.declared.entry.Entry.{Entry}
use Rattle.rules_space.specs.Rules.{AnyRules, Chains, Entries}

pub data Part : Type 0 where
  Addresses : Prefix → Part
  Protocol : ℕ → Part
  Ports : (low high : ℕ) → Part

-- The parts that a service names.
abbrev pub service_parts : Service → List Part
service_parts s = Protocol s.proto ∷ Ports s.low s.high ∷ []

-- The parts that a description names: the prefixes of its hosts, and the services of every flow between the hosts.
abbrev pub flow_services : Site → List Service
flow_services site = flat_map (λ f. services_of site.services f.from f.to) (every_flow (length site.hosts))

abbrev pub site_parts : Site → List Part
site_parts site = map Addresses (all_prefixes site.hosts) ++ flat_map service_parts (flow_services site)

-- The parts that a rule names, negated or not.
abbrev pub address_parts : Option AddrMatch → List Part
address_parts None = []
address_parts (Some part) = Addresses part.prefix ∷ []

abbrev pub protocol_parts : Option ProtoMatch → List Part
protocol_parts None = []
protocol_parts (Some part) = Protocol part.proto ∷ []

abbrev pub port_parts : Option PortMatch → List Part
port_parts None = []
port_parts (Some part) = Ports part.low part.high ∷ []

abbrev pub rule_parts : Rule → List Part
rule_parts r = address_parts r.src ++ (address_parts r.dst ++ (protocol_parts r.proto ++ (port_parts r.sport ++ port_parts r.dport)))

-- The parts that an entry of a flow table names. A single port is a range from and to this port.
abbrev pub prefix_parts : Option Prefix → List Part
prefix_parts None = []
prefix_parts (Some prefix) = Addresses prefix ∷ []

abbrev pub number_parts : Option ℕ → List Part
number_parts None = []
number_parts (Some n) = Protocol n ∷ []

abbrev pub one_port_parts : Option ℕ → List Part
one_port_parts None = []
one_port_parts (Some port) = Ports port port ∷ []

abbrev pub entry_parts : Entry → List Part
entry_parts e = prefix_parts e.src ++ (prefix_parts e.dst ++ (number_parts e.proto ++ (one_port_parts e.tp_src ++ one_port_parts e.tp_dst)))

-- The parts that rules name: the parts of all rules of the chains, or of all entries.
abbrev pub rules_parts : AnyRules → List Part
rules_parts (Chains chains) = flat_map rule_parts (all_rules chains)
rules_parts (Entries entries) = flat_map entry_parts entries
