-- The sink template: a sink sends to no host; a pool sends to pools and sinks; an unassigned host sends to all. Based
-- on the template of this name of Network_Security_Policy_Verification in the Archive of Formal Proofs, with the table
-- of docs/FORMATS.md.
use Rattle.std.specs.Prelude.{Bool, true, false, codes}
use Rattle.inv_law.specs.Template.{AnyAttribute, Template, edge_template}
use Rattle.inv_law.specs.declared.strategy.Strategy.TheVariants.{Information}
use Rattle.tmpl_zones.specs.Kinds.{TablePasses}
use Rattle.tmpl_zones.specs.declared.sink.SinkKind.{SinkKind}
use Rattle.tmpl_zones.specs.declared.sink.SinkKind.TheVariants.{Sink, Pool, Unassigned}

-- Whether a flow passes, by the kinds of its sender and its receiver.
abbrev pub sink_passes : SinkKind → SinkKind → Bool
sink_passes Sink receiver = false
sink_passes Pool Unassigned = false
sink_passes sender receiver = true

-- The template `sink`.
abbrev pub sinks : Template
sinks = edge_template (codes "sink") Information AnyAttribute Unassigned (TablePasses sink_passes)
