use Rattle.std.proofs.Common.{◌≡◌, ◌+◌, [], map, drop, take}
use Rattle.desc_form.specs.inner.RawView.{template_view}
use Rattle.desc_core.specs.TemplateConditions.{first_bad}
use Rattle.desc_core.proofs.templates.bad_template.Given as goal

abbrev pub invariant-loop-index : goal.invariant-loop-index
invariant-loop-index l =
    first_bad (map template_view (take l.index l.templates)) (l.index + 1) (map template_view (drop l.index l.templates)) ≡ first_bad [] 1 (map template_view l.templates)
