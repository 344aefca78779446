-- The formats of the files that only `topos` reads.
use Rattle.std.specs.Prelude.{ℕ, List, Ok, codes}
use Rattle.desc_core.specs.Migrated.{IsMigrated}
use Rattle.edit_core.specs.Summaries.{IsStarted}
use Rattle.edit_core.specs.Edit.{Edit}
use Rattle.edit_core.specs.EditsText.{IsReadingOfEdits, IsRefusedInEdits, edits_text}
use Rattle.pkt_core.specs.EventsText.{IsReadingOfEvents, IsRefusedInEvents, events_text}
use Rattle.pkt_core.specs.declared.event.Event.{Event}
use Rattle.run_core.specs.Dialects.{rule_dialect_of}
use Rattle.run_core.specs.FileFormats.{FileFormat, description_as, text}
use Rattle.run_core.specs.TextFault.{ReportsFault}
use Rattle.run_core.specs.declared.dialect.Dialect.{Dialect}
use Rattle.toml.specs.Data.{Members}
use Rattle.topos_top.specs.TextFault.{list_reason}

-- Rules of a dialect.
abbrev pub rules : Dialect → FileFormat
rules dialect = text (rule_dialect_of dialect).Rules (rule_dialect_of dialect).byte_limit (rule_dialect_of dialect).IsReading (rule_dialect_of dialect).Refuses

-- A list of events.
abbrev pub events : FileFormat
events = text (List Event) events_text.byte_limit IsReadingOfEvents (ReportsFault (codes "events") list_reason IsRefusedInEvents)

-- A description to be migrated.
abbrev pub document : FileFormat
document = description_as (List ℕ) IsMigrated

-- A description to be edited.
abbrev pub edited : FileFormat
edited = description_as Members (λ bytes table. IsStarted bytes (Ok table))

-- A list of edits.
abbrev pub edits : FileFormat
edits = text (List Edit) edits_text.byte_limit IsReadingOfEdits (ReportsFault (codes "edits") list_reason IsRefusedInEdits)
