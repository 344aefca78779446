-- The format of each kind of file that the code of `topos` reads. No promise of `run` depends on it.
use Rattle.run_core.specs.FileFormats.{FileFormat}
use Rattle.topos_top.specs.FileFormats.{rules, events, document, edited, edits}
use Rattle.topos_top.specs.declared.kind.Kind.{Kind}
use Rattle.topos_top.specs.declared.kind.Kind.TheVariants.{Rules, Events, Document, Edited, Edits}

abbrev pub format_of : Kind → FileFormat
format_of (Rules dialect) = rules dialect
format_of Events = events
format_of Document = document
format_of Edited = edited
format_of Edits = edits
