use Rattle.std.proofs.Common.{◌≡◌, ◌+◌, ◌==◌, drop, option_map}
use Rattle.std.specs.Prelude.{find}
use Rattle.text_core.specs.FirstMatch.{Numbered, numbered_from}
use Rattle.desc_form.specs.Refusals.{refused}
use Rattle.desc_form.specs.declared.refusal.Place.TheVariants.{FlowAt}
use Rattle.desc_form.specs.declared.refusal.Why.TheVariants.{SelfFlow}
use Rattle.flow_set.specs.declared.flow.Flow.{Flow}
use Rattle.desc_core.proofs.flows.self_flow.Given as goal

abbrev pub invariant-loop-index : goal.invariant-loop-index
invariant-loop-index l = record {
  same :
      option_map (λ (f : Numbered Flow). refused SelfFlow (FlowAt f.number)) (find (λ f. f.what.from == f.what.to) (numbered_from (l.index + 1) (drop l.index l.flows)))
      ≡ option_map (λ (f : Numbered Flow). refused SelfFlow (FlowAt f.number)) (find (λ f. f.what.from == f.what.to) (numbered_from 1 l.flows));
}
