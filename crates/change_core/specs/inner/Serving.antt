-- Services of two flows that match one packet. Internal: callers use `Weaker`.
use Rattle.std.specs.Prelude.{Bool, ◌&&◌, ◌||◌, ◌==◌, nat_le, List}
use Rattle.std.specs.List.{list_any}
use Rattle.host_net.specs.Service.{is_whole}
use Rattle.host_net.specs.Services.{RestrictedFlow, services_of}
use Rattle.host_net.specs.declared.service.Service.{Service}
use Rattle.flow_set.specs.declared.flow.Flow.{Flow}

-- The services have one protocol, and a port in common.
abbrev pub meets : Service → Service → Bool
meets s t = (s.proto == t.proto) && (nat_le s.low t.high && nat_le t.low s.high)

-- The service meets one of the others.
abbrev pub meets_some : List Service → Service → Bool
meets_some others s = list_any (meets s) others

-- Some packet matches both lists of services: one of them is empty, or a service of one meets a service of the other.
abbrev pub services_meet : (left right : List Service) → Bool
services_meet left right = is_whole left || (is_whole right || list_any (meets_some right) left)

-- The services of a flow of the new network and of a flow of the old network meet.
abbrev pub flows_meet : (new old : List RestrictedFlow) → (f g : Flow) → Bool
flows_meet new old f g = services_meet (services_of new f.from f.to) (services_of old g.from g.to)
