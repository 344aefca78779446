-- The services that a flow table cannot match: an entry matches one port, or all ports (ovs-fields(7), tp_dst without a mask).
use Rattle.std.specs.Prelude.{Bool, not, ◌&&◌, nat_lt, IsTrue, IsFalse, List}
use Rattle.std.specs.List.{list_any}
use Rattle.host_net.specs.declared.service.Service.{Service}
use Rattle.host_net.specs.Service.{has_all_ports}
use Rattle.host_net.specs.Services.{RestrictedFlow, services_of}
use Rattle.flow_set.specs.declared.flow.Flow.{Flow}
use Rattle.flow_set.specs.Flow.{before}
use Rattle.flow_set.specs.FlowSet.{has}

-- The service has several ports, but not all.
abbrev pub is_range : Service → Bool
is_range s = nat_lt s.low s.high && not (has_all_ports s)

-- The flow has a service with a range of ports.
abbrev pub has_range : List RestrictedFlow → Flow → Bool
has_range services f = list_any is_range (services_of services f.from f.to)

-- None of the flows has such a service.
abbrev pub HasNoRange : List RestrictedFlow → List Flow → Type 0
HasNoRange services p = (f : Flow) → IsTrue (has p f) → IsFalse (has_range services f)

-- f is the first of the flows with such a service.
pub record IsFirstRange (services : List RestrictedFlow) (p : List Flow) (f : Flow) : Type 0 where
  pub permitted : IsTrue (has p f)
  pub range : IsTrue (has_range services f)
  pub first : (g : Flow) → IsTrue (before g f) → IsTrue (has p g) → IsFalse (has_range services g)
