use Rattle.std.proofs.Common.{◌≡◌, ◌+◌, map, drop}
use Rattle.desc_form.specs.inner.RawView.{template_view}
use Rattle.desc_core.specs.TemplateConditions.{unlawful_at}
use Rattle.text_core.specs.FirstMatch.{first_found, numbered_from}
use Rattle.desc_core.proofs.templates.not_lawful.Given as goal

abbrev pub invariant-loop-index : goal.invariant-loop-index
invariant-loop-index l =
    first_found unlawful_at (numbered_from (l.index + 1) (map template_view (drop l.index l.templates))) ≡ first_found unlawful_at (numbered_from 1 (map template_view l.templates))
