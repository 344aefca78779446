-- Packets that belong to flows of one policy, and not to flows of another. Internal: callers use `Changes`.
use Rattle.std.specs.Prelude.{Bool, List}
use Rattle.host_net.specs.declared.packet.Packet.{Packet}
use Rattle.host_net.specs.Site.{Site}
use Rattle.flow_set.specs.declared.flow.Flow.{Flow}
use Rattle.pkt_core.specs.FlowPolicy.{is_of}
use Rattle.change_core.specs.Changes.{Comes}

-- Flows between the hosts of a policy, with their services.
pub record PolicyFlows : Type 0 where
  pub site : Site
  pub flows : List Flow

abbrev pub flows_with : Site → List Flow → PolicyFlows
flows_with site flows = record { site = site; flows = flows }

-- The packet belongs to one of the flows.
abbrev pub are_of : PolicyFlows → Packet → Bool
are_of f p = is_of f.site f.flows p

-- The packet belongs to the flows `with`, and not to the flows `without`.
abbrev pub IsGained : (without with : PolicyFlows) → Packet → Type 0
IsGained without with p = Comes (are_of without p) (are_of with p)
