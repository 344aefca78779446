-- The flow table of a policy with unrestricted flows only: each entry forwards or drops all packets.
use Rattle.std.specs.Prelude.{ℕ, Bool, true, false, if◌then◌else◌, List, [], ◌∷◌, ◌++◌, Option, Some, None, map}
use Rattle.std.specs.List.{flat_map}
use Rattle.host_net.specs.declared.prefix.Prefix.{Prefix}
use Rattle.host_net.specs.Host.{Host, rest_of}
use Rattle.flow_set.specs.declared.flow.Flow.{Flow}
use Rattle.ofp_rules.specs.declared.entry.Action.TheVariants.{Normal}
use Rattle.ofp_rules.specs.declared.entry.Entry.{Entry}
use Rattle.emit_core.specs.FlowTable.{ip_entry, for_each_host, rest_drop, arp_entry, other_entry}
use Rattle.emit_core.specs.Directions.{permits}

-- The entry from the prefix q to the prefix t: it forwards a permitted flow; if there is a rest host, it drops another.
abbrev pub whole_pair : Bool → Option ℕ → Prefix → Prefix → List Entry
whole_pair true rest q t = ip_entry 40 (Some q) (Some t) Normal ∷ []
whole_pair false rest q t = rest_drop rest 40 q t

-- The entries from each prefix of each host to each prefix of each host.
abbrev pub whole_between : List Host → List Flow → Option ℕ → List Entry
whole_between hosts p rest =
    for_each_host (λ i qs. for_each_host (λ j ts. flat_map (λ q. flat_map (whole_pair (permits p i j) rest q) ts) qs) 0 hosts) 0 hosts

-- The entries from the prefixes of a host to the rest host.
abbrev pub whole_to_rest : Bool → List Prefix → List Entry
whole_to_rest permitted qs = if permitted then map (λ q. ip_entry 30 (Some q) None Normal) qs else []

-- The entries from the rest host to the prefixes of a host.
abbrev pub whole_from_rest : Bool → List Prefix → List Entry
whole_from_rest permitted qs = if permitted then map (λ q. ip_entry 30 None (Some q) Normal) qs else []

-- The entries of each host to the rest host, and then from it.
abbrev pub whole_with_rest : List Host → List Flow → Option ℕ → List Entry
whole_with_rest hosts p None = []
whole_with_rest hosts p (Some r) =
    for_each_host (λ i qs. whole_to_rest (permits p i r) qs) 0 hosts ++ for_each_host (λ i qs. whole_from_rest (permits p r i) qs) 0 hosts

-- The table has these entries, one for ARP, and a last one that drops all other frames.
abbrev pub whole_entries : List Host → List Flow → List Entry
whole_entries hosts p =
    whole_between hosts p (rest_of hosts) ++ (whole_with_rest hosts p (rest_of hosts) ++ arp_entry ∷ other_entry ∷ [])
