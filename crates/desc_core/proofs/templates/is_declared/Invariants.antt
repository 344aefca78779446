use Rattle.std.proofs.Common.{◌≡◌, map, drop}
use Rattle.std.specs.List.{list_any}
use Rattle.std.specs.Str.{bytes_eq}
use Rattle.desc_form.specs.RawTemplate.{RawTemplate}
use Rattle.desc_form.specs.inner.RawView.{template_view}
use Rattle.desc_core.proofs.templates.is_declared.Given as goal

abbrev pub invariant-loop-template : goal.invariant-loop-template
invariant-loop-template l =
    list_any (λ (t : RawTemplate). bytes_eq l.name t.name) (map template_view (drop l.template-index l.templates)) ≡ list_any (λ (t : RawTemplate). bytes_eq l.name t.name) (map template_view l.templates)
