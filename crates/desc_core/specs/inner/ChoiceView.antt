-- The model of the code's choice of a template.
use Rattle.desc_core.specs.Choices as meant
use Rattle.desc_core.specs.declared.choice.Choice.{Choice}
use Rattle.desc_core.specs.declared.choice.Choice.TheVariants.{OneOfTen, OwnTable}
use Rattle.desc_form.specs.inner.RawView.{template_view}

abbrev pub choice_view : Choice → meant.Choice
choice_view (OneOfTen t) = meant.OneOfTen t
choice_view (OwnTable t) = meant.OwnTable (template_view t.now)
