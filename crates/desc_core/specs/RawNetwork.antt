-- The network that a raw description specifies: its hosts, the flows between them, their services, and the invariant of each template (the
-- description's format, docs/FORMATS.md). Parts that are refused are skipped here: if a description is refused, its network is irrelevant.
use Rattle.std.specs.Prelude.{List, [], ◌∷◌, length, filter_map, Option, Some, None, option_map, if◌then◌else◌}
use Rattle.attr_core.specs.Assigns.{Given}
use Rattle.desc_core.specs.Choices.{Choice, chosen, made_by}
use Rattle.desc_core.specs.Flows.{flow_of_names}
use Rattle.flow_set.specs.FlowSet.{set_of}
use Rattle.desc_form.specs.RawDescription.{RawDescription, RawAssign, RawInvariant}
use Rattle.desc_form.specs.RawFlow.{RawFlow}
use Rattle.desc_form.specs.RawTemplate.{RawTemplate}
use Rattle.desc_form.specs.RawHosts.{network_hosts}
use Rattle.flow_set.specs.EveryFlow.{every_flow}
use Rattle.flow_set.specs.declared.flow.Flow.{Flow}
use Rattle.host_net.specs.Host.{Host, host_named}
use Rattle.host_net.specs.Services.{RestrictedFlow}
use Rattle.host_net.specs.ServiceText.{service_of}
use Rattle.host_net.specs.declared.service.Service.{Service}
use Rattle.net_core.specs.Network.{Network}
use Rattle.inv_any.specs.declared.any_inv.AnyInv.{AnyInv}
use Rattle.table_core.specs.Listing.{each}
use Rattle.text_core.specs.Steps.{◌>>=◌}

-- The listed flows; every flow if the key `flow` is absent.
unfoldable pub asked_of : RawDescription → List Flow
asked_of w = if w.given then set_of (filter_map (flow_of_names (network_hosts w)) w.flows) else every_flow (length w.hosts)

-- A flow with its services. A flow without services is unrestricted.
abbrev pub narrowed_to : Flow → List Service → Option RestrictedFlow
narrowed_to flow [] = None
narrowed_to flow (s ∷ ss) = Some (record { from = flow.from; to = flow.to; services = s ∷ ss })

-- The services that the strings of a flow denote.
abbrev pub declared_services : RawFlow → List Service
declared_services f = filter_map service_of f.services

-- The restricted flow of a raw flow, if it has services.
abbrev pub narrowed_of : List Host → RawFlow → Option RestrictedFlow
narrowed_of hosts f = flow_of_names hosts f >>= λ flow. narrowed_to flow (declared_services f)

-- The flows that are restricted to services, in the order in which they are listed.
unfoldable pub services_in : RawDescription → List RestrictedFlow
services_in w = filter_map (narrowed_of (network_hosts w)) w.flows

-- The host and the table of an assign, if its host is declared.
abbrev pub given_by : List Host → RawAssign → Option Given
given_by hosts a = option_map (λ host. record { host = host; table = a.table }) (host_named hosts a.host)

-- An invariant with resolved names: its template, and the hosts and tables of its assigns.
pub record Known : Type 0 where
  pub template : Choice
  pub assigns : List Given

-- A raw invariant with resolved names; `None` if the template or a host is unknown.
unfoldable pub known_of : List RawTemplate → List Host → RawInvariant → Option Known
known_of templates hosts i = do
  template ← chosen templates i.template
  assigns ← each (given_by hosts) i.assigns
  Some (record { template = template; assigns = assigns })

-- The invariant whose hosts have the assigned attributes.
abbrev pub made_of : List Host → Known → AnyInv
made_of hosts known = made_by hosts known.template known.assigns

-- The invariant of a raw invariant, if its names are known.
abbrev pub invariant_of : List RawTemplate → List Host → RawInvariant → Option AnyInv
invariant_of templates hosts i = option_map (made_of hosts) (known_of templates hosts i)

-- The invariants of a raw description.
unfoldable pub invariants_of : RawDescription → List AnyInv
invariants_of w = filter_map (invariant_of w.templates (network_hosts w)) w.invariants

-- The network of a raw description.
unfoldable pub network_of : RawDescription → Network
network_of w = record {
  hosts = network_hosts w;
  asked = record { size = length w.hosts; flows = asked_of w };
  services = services_in w;
  given = w.given;
  answers = w.answers;
  invariants = invariants_of w;
}
