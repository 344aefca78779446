use Rattle.std.proofs.Common.{◌≡◌, ◌+◌, map, drop, not, option_map}
use Rattle.std.specs.Prelude.{find}
use Rattle.desc_form.specs.RawTemplate.{RawPair}
use Rattle.desc_form.specs.inner.RawView.{pair_view, template_view}
use Rattle.desc_core.specs.TemplateConditions.{has_partner}
use Rattle.text_core.specs.FirstMatch.{Numbered, numbered_from}
use Rattle.desc_form.specs.Refusals.{refused_item}
use Rattle.desc_form.specs.declared.refusal.Place.TheVariants.{Template}
use Rattle.desc_form.specs.declared.refusal.Why.TheVariants.{NotLawful}
use Rattle.desc_core.proofs.templates.unlawful_at.Given as goal

abbrev pub invariant-loop-index : goal.invariant-loop-index
invariant-loop-index l =
    option_map (λ (p : Numbered RawPair). refused_item NotLawful (Template l.number) p.number) (find (λ (p : Numbered RawPair). not (has_partner (template_view l.template) p.what)) (numbered_from (l.index + 1) (map pair_view (drop l.index l.template.deny.items))))
    ≡ option_map (λ (p : Numbered RawPair). refused_item NotLawful (Template l.number) p.number) (find (λ (p : Numbered RawPair). not (has_partner (template_view l.template) p.what)) (numbered_from 1 (map pair_view l.template.deny.items)))
