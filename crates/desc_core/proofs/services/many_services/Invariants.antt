use Rattle.std.proofs.Common.{◌≡◌, ◌+◌, map, drop, option_map}
use Rattle.std.specs.Prelude.{find}
use Rattle.desc_core.specs.UseConditions.{has_many_services}
use Rattle.desc_form.specs.Refusals.{refused}
use Rattle.desc_form.specs.RawFlow.{RawFlow}
use Rattle.desc_form.specs.inner.RawView.{flow_view}
use Rattle.desc_form.specs.declared.refusal.Place.TheVariants.{FlowAt}
use Rattle.desc_form.specs.declared.refusal.Why.TheVariants.{ManyServices}
use Rattle.text_core.specs.FirstMatch.{Numbered, numbered_from}
use Rattle.desc_core.proofs.services.many_services.Given as goal

abbrev pub invariant-loop-index : goal.invariant-loop-index
invariant-loop-index l = record {
  same :
      option_map (λ (f : Numbered RawFlow). refused ManyServices (FlowAt f.number)) (find (λ f. has_many_services f.what) (numbered_from (l.index + 1) (map flow_view (drop l.index l.flows))))
      ≡ option_map (λ (f : Numbered RawFlow). refused ManyServices (FlowAt f.number)) (find (λ f. has_many_services f.what) (numbered_from 1 (map flow_view l.flows)));
}
