-- The answers that a flow table can let pass. It is stateless, so these are the answers that the reverse flow permits in any case.
use Rattle.std.specs.Prelude.{Bool, not, ◌&&◌, ◌||◌, ◌==◌, IsTrue, IsFalse, List}
use Rattle.std.specs.List.{list_all, list_any}
use Rattle.host_net.specs.declared.service.Service.{Service}
use Rattle.host_net.specs.Service.{has_all_ports, is_whole}
use Rattle.host_net.specs.Services.{RestrictedFlow, services_of}
use Rattle.flow_set.specs.declared.flow.Flow.{Flow}
use Rattle.flow_set.specs.Flow.{reverse_of, before}
use Rattle.flow_set.specs.FlowSet.{has}
use Rattle.pkt_core.specs.FlowPolicy.{FlowPolicy}

-- One of these services matches all packets of the protocol of the other service.
abbrev pub has_all_of : List Service → Service → Bool
has_all_of ss t = list_any (λ u. (t.proto == u.proto) && has_all_ports u) ss

-- The answers to a flow are covered: its reverse is permitted, and the reverse is unrestricted; or the flow is restricted, and the
-- permitted reverse has all ports of each protocol of its services.
abbrev pub is_covered : List RestrictedFlow → List Flow → Flow → Bool
is_covered services p f =
    has p (reverse_of f)
    && (is_whole (services_of services f.to f.from)
    || (not (is_whole (services_of services f.from f.to)) && list_all (has_all_of (services_of services f.to f.from)) (services_of services f.from f.to)))

-- The answers of each stateful flow are covered.
abbrev pub AnswersAreCovered : FlowPolicy → Type 0
AnswersAreCovered policy = (f : Flow) → IsTrue (has policy.stateful f) → IsTrue (is_covered policy.site.services policy.permitted f)

-- f is the first stateful flow whose answers are not covered.
pub record IsFirstUncovered (policy : FlowPolicy) (f : Flow) : Type 0 where
  pub stateful : IsTrue (has policy.stateful f)
  pub barred : IsFalse (is_covered policy.site.services policy.permitted f)
  pub first : (g : Flow) → IsTrue (before g f) → IsTrue (has policy.stateful g) → IsTrue (is_covered policy.site.services policy.permitted g)
