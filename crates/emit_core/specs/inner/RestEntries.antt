-- The entries of the layout between hosts and the rest host, by direction.
use Rattle.std.specs.Prelude.{ℕ, Bool, if◌then◌else◌, List, [], Some, None, map}
use Rattle.std.specs.List.{flat_map}
use Rattle.host_net.specs.declared.prefix.Prefix.{Prefix}
use Rattle.host_net.specs.declared.service.Service.{Service}
use Rattle.host_net.specs.Service.{service_matches}
use Rattle.host_net.specs.Site.{Site}
use Rattle.flow_set.specs.declared.flow.Flow.{Flow}
use Rattle.ofp_rules.specs.declared.entry.Entry.{Entry}
use Rattle.emit_core.specs.declared.direction.Direction.{Direction}
use Rattle.emit_core.specs.declared.direction.Direction.TheVariants.{Outbound, Inbound}
use Rattle.emit_core.specs.FlowTable.{for_each_host, service_entry}
use Rattle.emit_core.specs.Directions.{connects, services_on}

-- The entries for one prefix of a host.
abbrev pub prefix_on : Direction → List Service → Prefix → List Entry
prefix_on Outbound ss q = map (service_entry 30 (Some q) None) (service_matches ss)
prefix_on Inbound ss q = map (service_entry 30 None (Some q)) (service_matches ss)

-- The entries for the prefixes of a host.
abbrev pub prefixes_on : Direction → Bool → List Service → List Prefix → List Entry
prefixes_on side permitted ss qs = if permitted then flat_map (prefix_on side ss) qs else []

-- The entries for all hosts.
abbrev pub with_rest_on : Direction → Site → List Flow → ℕ → List Entry
with_rest_on side site p r = for_each_host (λ i qs. prefixes_on side (connects side p i r) (services_on side site.services i r) qs) 0 site.hosts
