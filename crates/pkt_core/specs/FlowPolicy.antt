-- A policy between hosts, and its decision for a packet.
use Rattle.std.specs.Prelude.{ℕ, ◌==◌, Bool, false, ◌&&◌, if◌then◌else◌, List, Option, Some, None}
use Rattle.std.specs.Option.{option_map_or}
use Rattle.host_net.specs.declared.packet.Packet.{Packet}
use Rattle.host_net.specs.declared.packet.CtState.{CtState}
use Rattle.host_net.specs.Host.{Host, owner_of}
use Rattle.host_net.specs.Service.{is_served}
use Rattle.host_net.specs.Services.{services_of}
use Rattle.host_net.specs.Site.{Site}
use Rattle.flow_set.specs.declared.flow.Flow.{Flow}
use Rattle.flow_set.specs.FlowSet.{has}
use Rattle.pkt_core.specs.Firewall.{may_pass}

-- The hosts and the services of flows between them; the permitted flows, each restricted to its services if it has any; and the stateful
-- flows, the permitted flows whose answers may pass.
pub record FlowPolicy : Type 0 where
  pub site : Site
  pub permitted : List Flow
  pub stateful : List Flow

abbrev pub policy_with : Site → (permitted stateful : List Flow) → FlowPolicy
policy_with site permitted stateful = record { site = site; permitted = permitted; stateful = stateful }

-- The flow between two owners, if both exist and differ.
abbrev pub flow_of_owners : Option ℕ → Option ℕ → Option Flow
flow_of_owners None to = None
flow_of_owners (Some i) None = None
flow_of_owners (Some i) (Some j) = if i == j then None else Some (record { from = i; to = j })

-- The flow of a packet: from the owner of its source to the owner of its destination. A packet within one host, or with an address without
-- owner, has no flow.
abbrev pub flow_of : List Host → Packet → Option Flow
flow_of hosts packet = flow_of_owners (owner_of hosts packet.src) (owner_of hosts packet.dst)

-- The packet belongs to one of these flows: the flow between the owners of its addresses, and the services of this flow match it.
abbrev pub is_of : Site → List Flow → Packet → Bool
is_of site flows packet =
    option_map_or (λ f. has flows f && is_served (services_of site.services f.from f.to) packet) (flow_of site.hosts packet) false

-- The policy permits the packet: it belongs to a permitted flow.
abbrev pub permits : FlowPolicy → Packet → Bool
permits policy = is_of policy.site policy.permitted

-- The answers to the packet may pass: it belongs to a stateful flow.
abbrev pub permits_reply_to : FlowPolicy → Packet → Bool
permits_reply_to policy = is_of policy.site policy.stateful

-- The policy allows the packet: it permits the packet, or the packet answers one whose answers may pass, on an established connection.
abbrev pub lets_pass : FlowPolicy → Packet → CtState → Bool
lets_pass policy packet state = may_pass (permits policy) (permits_reply_to policy) state packet
