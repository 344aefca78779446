use Rattle.std.proofs.Common.{sym}
use Rattle.desc_core.proofs.ListingLaws.{found_here}
use Rattle.desc_core.specs.TemplateConditions.{unlawful_at}
use Rattle.desc_form.specs.inner.RawView.{template_view}
use Rattle.desc_core.proofs.templates.not_lawful.Goals as goal

pub returns-then-is_some : goal.returns-then-is_some
returns-then-is_some c =
    found_here unlawful_at template_view c.args.templates.now c.loop-index.index c.index-templates-index.result c.unlawful_at-found.result _ c.loop-index-test.true c.index-templates-index.is
    c.unlawful_at-found.ensures (sym c.if-is_some.ensures) c.loop-index.invariant
