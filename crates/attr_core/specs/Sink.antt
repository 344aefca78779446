-- Sinks: `kind` is one of three words.
-- The keys of an assign of this template: docs/FORMATS.md.
use Rattle.std.specs.Prelude.{ℕ, List, [], ◌∷◌, codes}
use Rattle.inv_any.specs.declared.any_inv.AnyInv.TheVariants as any
use Rattle.tmpl_zones.specs.Sink.{sinks}
use Rattle.tmpl_zones.specs.declared.sink.SinkKind.{SinkKind}
use Rattle.tmpl_zones.specs.declared.sink.SinkKind.TheVariants.{Sink, Pool, Unassigned}
use Rattle.attr_core.specs.Forms.{Form}
use Rattle.attr_core.specs.Kinds.{by_kind}

-- The kinds, by their words.
abbrev pub sink_kinds : List (List ℕ × SinkKind)
sink_kinds = (codes "sink", Sink) ∷ (codes "pool", Pool) ∷ (codes "unassigned", Unassigned) ∷ []

-- The attribute format of the template.
abbrev pub sink_form : Form
sink_form = by_kind sinks sink_kinds any.Sink
