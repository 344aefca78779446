-- The layout of a policy as an OpenFlow flow table (docs/TEXTS.md, the flows of a switch). The policy is given by its permitted flows p,
-- each restricted to its services if it has any; hosts are identified by their numbers.
use Rattle.std.specs.Prelude.{ℕ, ◌+◌, Bool, true, false, if◌then◌else◌, List, [], ◌∷◌, ◌++◌, Option, Some, None, map, option_map}
use Rattle.std.specs.List.{flat_map}
use Rattle.std.specs.Option.{option_map_or, option_and_then}
use Rattle.host_net.specs.declared.prefix.Prefix.{Prefix}
use Rattle.host_net.specs.declared.service.Service.{Service}
use Rattle.host_net.specs.Host.{Host, rest_of}
use Rattle.host_net.specs.Service.{has_all_ports, is_whole, service_matches}
use Rattle.host_net.specs.Services.{services_of}
use Rattle.host_net.specs.Site.{Site}
use Rattle.flow_set.specs.declared.flow.Flow.{Flow}
use Rattle.ofp_rules.specs.declared.entry.Entry.{Entry}
use Rattle.ofp_rules.specs.declared.entry.FrameKind.TheVariants.{Any, Arp, Ip}
use Rattle.ofp_rules.specs.declared.entry.Action.{Action}
use Rattle.ofp_rules.specs.declared.entry.Action.TheVariants.{Normal, Drop}
use Rattle.emit_core.specs.Directions.{permits}

-- The entries for each host, from number k on, computed from its prefixes. The rest host has no prefixes.
abbrev pub for_each_host : (ℕ → List Prefix → List Entry) → ℕ → List Host → List Entry
for_each_host written k [] = []
for_each_host written k (h ∷ hs) = written k h.prefixes ++ for_each_host written (k + 1) hs

-- An entry for IPv4 frames. Without a prefix it matches every source, or every destination.
abbrev pub ip_entry : ℕ → Option Prefix → Option Prefix → Action → Entry
ip_entry priority q t action = record { priority = priority; kind = Ip; src = q; dst = t; proto = None; tp_src = None; tp_dst = None; action = action }

-- The port that an entry for a service matches. A service with all ports matches on none.
abbrev pub port_of_service : Service → Option ℕ
port_of_service s = if has_all_ports s then None else Some s.low

-- An entry that forwards the packets of a service.
abbrev pub service_entry : ℕ → Option Prefix → Option Prefix → Option Service → Entry
service_entry priority q t n =
    record (ip_entry priority q t Normal) { proto = option_map (λ s. s.proto) n; tp_dst = option_and_then port_of_service n }

-- The entry that drops the packets between two prefixes if there is a rest host. Without it they would match an entry of the rest host.
abbrev pub rest_drop : Option ℕ → ℕ → Prefix → Prefix → List Entry
rest_drop rest priority q t = option_map_or (λ r. ip_entry priority (Some q) (Some t) Drop ∷ []) rest []

-- The entries from prefix q to prefix t. For a permitted flow: one for each service, and below them a drop entry if the flow is restricted
-- and there is a rest host. For any other flow: only the drop entry, if there is a rest host.
abbrev pub pair_entries : Bool → List Service → Option ℕ → Prefix → Prefix → List Entry
pair_entries true ss rest q t =
    map (service_entry 40 (Some q) (Some t)) (service_matches ss) ++ (if is_whole ss then [] else rest_drop rest 35 q t)
pair_entries false ss rest q t = rest_drop rest 40 q t

-- The entries from one prefix to each of several prefixes.
abbrev pub from_prefix : Bool → List Service → Option ℕ → List Prefix → Prefix → List Entry
from_prefix permitted ss rest ts q = flat_map (pair_entries permitted ss rest q) ts

-- The entries from each prefix of one host to each prefix of another.
abbrev pub host_pair : Bool → List Service → Option ℕ → List Prefix → List Prefix → List Entry
host_pair permitted ss rest qs ts = flat_map (from_prefix permitted ss rest ts) qs

-- The entries from host i, with its prefixes, to each host.
abbrev pub from_host : Site → List Flow → Option ℕ → ℕ → List Prefix → List Entry
from_host site p rest i qs = for_each_host (λ j ts. host_pair (permits p i j) (services_of site.services i j) rest qs ts) 0 site.hosts

-- The entries from each host to each host.
abbrev pub between : Site → List Flow → Option ℕ → List Entry
between site p rest = for_each_host (from_host site p rest) 0 site.hosts

-- The entries from the prefixes of a host to the rest host, for each service.
abbrev pub to_rest_host : Bool → List Service → List Prefix → List Entry
to_rest_host permitted ss qs = if permitted then flat_map (λ q. map (service_entry 30 (Some q) None) (service_matches ss)) qs else []

-- The entries from the rest host to the prefixes of a host, for each service.
abbrev pub from_rest_host : Bool → List Service → List Prefix → List Entry
from_rest_host permitted ss qs = if permitted then flat_map (λ q. map (service_entry 30 None (Some q)) (service_matches ss)) qs else []

-- The entries from each host to the rest host.
abbrev pub to_rest : Site → List Flow → ℕ → List Entry
to_rest site p r = for_each_host (λ i qs. to_rest_host (permits p i r) (services_of site.services i r) qs) 0 site.hosts

-- The entries from the rest host to each host.
abbrev pub from_rest : Site → List Flow → ℕ → List Entry
from_rest site p r = for_each_host (λ i qs. from_rest_host (permits p r i) (services_of site.services r i) qs) 0 site.hosts

-- The entries to and from the rest host, if there is one.
abbrev pub with_rest : Site → List Flow → Option ℕ → List Entry
with_rest site p rest = option_map_or (λ r. to_rest site p r ++ from_rest site p r) rest []

-- The entry that forwards ARP frames.
abbrev pub arp_entry : Entry
arp_entry = record { priority = 20; kind = Arp; src = None; dst = None; proto = None; tp_src = None; tp_dst = None; action = Normal }

-- The entry that drops the frames that match no other entry.
abbrev pub other_entry : Entry
other_entry = record { priority = 0; kind = Any; src = None; dst = None; proto = None; tp_src = None; tp_dst = None; action = Drop }

-- All entries of a policy.
unfoldable pub flow_entries : Site → List Flow → List Entry
flow_entries site p =
    between site p (rest_of site.hosts) ++ (with_rest site p (rest_of site.hosts) ++ arp_entry ∷ other_entry ∷ [])
