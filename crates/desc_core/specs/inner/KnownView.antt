-- The model of the code's invariant with resolved names.
use Rattle.std.specs.Prelude.{map}
use Rattle.attr_core.specs.inner.AssignView.{given_of}
use Rattle.desc_core.specs.inner.ChoiceView.{choice_view}
use Rattle.desc_core.specs.RawNetwork as meant
use Rattle.desc_core.specs.declared.known.KnownInvariant.{KnownInvariant}

abbrev pub known_view : KnownInvariant → meant.Known
known_view k = record { template = choice_view k.template; assigns = map given_of k.assigns.items }
