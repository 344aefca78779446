use Rattle.std.proofs.Common.{◌≡◌, ◌≤◌, ◌+◌, List, ℕ, [], map, drop, length, option_map}
use Rattle.std.specs.List.{filter_map}
use Rattle.std.specs.Prelude.{find, if◌then◌else◌, is_none, nat_lt}
use Rattle.desc_core.specs.RawNetwork.{declared_services}
use Rattle.desc_core.specs.inner.Parts.{with_services, within_limit}
use Rattle.desc_core.specs.UseConditions.{bad_service_of}
use Rattle.desc_form.specs.Refusals.{refused_item}
use Rattle.desc_form.specs.inner.RawView.{flow_view}
use Rattle.desc_form.specs.declared.refusal.Place.TheVariants.{FlowAt}
use Rattle.desc_form.specs.declared.refusal.Why.TheVariants.{BadService}
use Rattle.host_net.specs.Services.{service_limit, services_of}
use Rattle.host_net.specs.ServiceText.{service_of}
use Rattle.text_core.specs.FirstMatch.{Numbered, numbered_from}
use Rattle.desc_core.proofs.services.add_services.Given as goal

abbrev pub invariant-loop-index : goal.invariant-loop-index
invariant-loop-index l = record {
  same :
      option_map (λ (s : Numbered (List ℕ)). refused_item BadService (FlowAt l.number) (s.number + 2)) (find (λ s. is_none (service_of s.what)) (numbered_from (l.index + 1) (map (λ text. text.now) (drop l.index l.written.services.items))))
      ≡ bad_service_of (record { number = l.number; what = flow_view l.written });
  added :
      with_services l.services l.flow (filter_map service_of (if nat_lt service_limit (length l.written.services.items) then [] else map (λ text. text.now) (drop l.index l.written.services.items)))
      ≡ with_services l.fn.services l.flow (declared_services (within_limit (flow_view l.written)));
  room : length (services_of l.services l.flow.from l.flow.to) ≤ l.index;
}
