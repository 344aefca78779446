-- The two directions of a packet, as seen from a host: outbound and inbound.
use Rattle.std.specs.Prelude.{ℕ, ◌==◌, Bool, not, ◌&&◌, List}
use Rattle.host_net.specs.declared.service.Service.{Service}
use Rattle.host_net.specs.Services.{RestrictedFlow, services_of}
use Rattle.flow_set.specs.declared.flow.Flow.{Flow}
use Rattle.flow_set.specs.FlowSet.{has}
use Rattle.emit_core.specs.declared.direction.Direction.{Direction}
use Rattle.emit_core.specs.declared.direction.Direction.TheVariants.{Outbound, Inbound}

-- The direction of the answers: an inbound packet answers an outbound one, and vice versa.
abbrev pub other_direction : Direction → Direction
other_direction Outbound = Inbound
other_direction Inbound = Outbound

-- The flow that host i has with host j in a direction: from i to j if outbound, from j to i if inbound.
abbrev pub flow_on : Direction → ℕ → ℕ → Flow
flow_on Outbound i j = record { from = i; to = j }
flow_on Inbound i j = record { from = j; to = i }

-- The flow from i to j is in the set.
abbrev pub permits : List Flow → ℕ → ℕ → Bool
permits flows i j = not (i == j) && has flows (record { from = i; to = j })

-- The flow that host i has with host j in a direction is in the set.
abbrev pub connects : Direction → List Flow → ℕ → ℕ → Bool
connects side flows i j = permits flows (flow_on side i j).from (flow_on side i j).to

-- The services of the flow that host i has with host j in a direction.
abbrev pub services_on : Direction → List RestrictedFlow → ℕ → ℕ → List Service
services_on side services i j = services_of services (flow_on side i j).from (flow_on side i j).to
