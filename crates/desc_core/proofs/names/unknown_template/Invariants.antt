use Rattle.std.proofs.Common.{◌≡◌, ◌+◌, map, drop, option_map}
use Rattle.std.specs.Prelude.{find, is_none}
use Rattle.desc_core.specs.Choices.{chosen}
use Rattle.text_core.specs.FirstMatch.{Numbered, numbered_from}
use Rattle.desc_form.specs.Refusals.{refused}
use Rattle.desc_form.specs.inner.RawView.{invariant_view, template_view}
use Rattle.desc_form.specs.RawDescription.{RawInvariant}
use Rattle.desc_form.specs.declared.refusal.Place.TheVariants.{Invariant}
use Rattle.desc_form.specs.declared.refusal.Why.TheVariants.{UnknownTemplate}
use Rattle.desc_core.proofs.names.unknown_template.Given as goal

abbrev pub invariant-loop-index : goal.invariant-loop-index
invariant-loop-index l = record {
  same :
      option_map (λ (i : Numbered RawInvariant). refused UnknownTemplate (Invariant i.number)) (find (λ i. is_none (chosen (map template_view l.templates) i.what.template)) (numbered_from (l.index + 1) (map invariant_view (drop l.index l.invariants))))
      ≡ option_map (λ (i : Numbered RawInvariant). refused UnknownTemplate (Invariant i.number)) (find (λ i. is_none (chosen (map template_view l.templates) i.what.template)) (numbered_from 1 (map invariant_view l.invariants)));
}
