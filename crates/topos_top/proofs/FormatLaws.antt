-- The laws of the formats of files, and what is refused beyond their limits.
use Rattle.std.proofs.Common.{◌≡◌, ◌<◌, ℕ, List, length, Some, Ok, codes, refl}
use Rattle.desc_core.specs.Document.{document as table_of_bytes}
use Rattle.desc_core.specs.Migrated.{IsMigrated}
use Rattle.desc_core.proofs.MigratedOnceLaws.{migrated_once}
use Rattle.desc_form.specs.Refusals.{refused}
use Rattle.desc_form.specs.declared.refusal.Place.TheVariants.{Document as WholeDocument}
use Rattle.desc_form.specs.declared.refusal.Why.TheVariants.{TooLong}
use Rattle.edit_core.proofs.EditFaultLaws.{edits_settled}
use Rattle.edit_core.specs.Edit.{Edit}
use Rattle.edit_core.specs.EditsText.{edits_text, IsReadingOfEdits, IsRefusedInEdits}
use Rattle.edit_core.specs.Summaries.{IsStarted}
use Rattle.pkt_core.proofs.EventFaultLaws.{events_settled}
use Rattle.pkt_core.specs.EventsText.{events_text, IsReadingOfEvents, IsRefusedInEvents}
use Rattle.pkt_core.specs.declared.event.Event.{Event}
use Rattle.report_core.specs.RefusalLine.{refusal_text}
use Rattle.text_core.specs.declared.faults.ListWhy.TheVariants.{TooLong as ListTooLong}
use Rattle.text_core.specs.ListFormat.{by_lines}
use Rattle.text_core.specs.LineFormat.{too_long}
use Rattle.text_core.proofs.LineFormatLaws.{one_reading, one_fault, no_reading_with_fault}
use Rattle.toml.specs.Data.{Members}
use Rattle.run_core.specs.Dialects.{rule_dialect_of}
use Rattle.run_core.specs.FileFormats.{IsRefused}
use Rattle.run_core.specs.Reply.{error}
use Rattle.run_core.specs.TextFault.{ReportsFault, fault_line}
use Rattle.run_core.specs.declared.dialect.Dialect.{Dialect}
use Rattle.run_core.specs.declared.status.Status.TheVariants.{BadDescription, BadText}
use Rattle.run_core.proofs.DialectLaws.{laws_of}
use Rattle.run_core.proofs.FormatLaws.{IsLawfulFormat, RefusesOnce, lawful_description, lawful_text, long_is_refused, long_text}
use Rattle.run_core.proofs.TextFaultLaws.{same_line}
use Rattle.topos_top.specs.FileFormats.{rules, events, document, edited, edits}
use Rattle.topos_top.specs.TextFault.{list_reason}

pub rules_laws : (dialect : Dialect) → IsLawfulFormat (rules dialect)
rules_laws dialect =
    lawful_text (rule_dialect_of dialect).Rules (rule_dialect_of dialect).byte_limit (rule_dialect_of dialect).IsReading (rule_dialect_of dialect).Refuses
    (laws_of dialect).one_reading (laws_of dialect).reads_or_refuses

pub events_laws : IsLawfulFormat events
events_laws =
    lawful_text (List Event) events_text.byte_limit IsReadingOfEvents (ReportsFault (codes "events") list_reason IsRefusedInEvents)
    (λ bytes a b p q. one_reading (by_lines events_text) events_settled bytes a b p q)
    (λ bytes line said p q. no_reading_with_fault (by_lines events_text) events_settled bytes said q.number q.why q.fault p)

pub events_once : RefusesOnce events
events_once bytes a b p q = same_line (codes "events") list_reason IsRefusedInEvents bytes (one_fault (by_lines events_text) events_settled bytes) a b p q

pub edits_laws : IsLawfulFormat edits
edits_laws =
    lawful_text (List Edit) edits_text.byte_limit IsReadingOfEdits (ReportsFault (codes "edits") list_reason IsRefusedInEdits)
    (λ bytes a b p q. one_reading (by_lines edits_text) edits_settled bytes a b p q)
    (λ bytes line said p q. no_reading_with_fault (by_lines edits_text) edits_settled bytes said q.number q.why q.fault p)

pub edits_once : RefusesOnce edits
edits_once bytes a b p q = same_line (codes "edits") list_reason IsRefusedInEdits bytes (one_fault (by_lines edits_text) edits_settled bytes) a b p q

pub document_laws : IsLawfulFormat document
document_laws =
    lawful_description (List ℕ) IsMigrated migrated_once (λ bytes line said p q. let accepted = p.accepted in let why = q.1 in cc (accepted, why))

same_table : (bytes : List ℕ) (t u : Members) → table_of_bytes bytes ≡ Some t → table_of_bytes bytes ≡ Some u → t ≡ u
same_table bytes t u p q = cc (p, q)

pub edited_laws : IsLawfulFormat edited
edited_laws =
    lawful_description Members (λ bytes table. IsStarted bytes (Ok table)) (λ bytes a b p q. same_table bytes a b p.0 q.0)
    (λ bytes line said p q. let accepted = p.1.1 in let why = q.1 in cc (accepted, why))

-- ---- bytes beyond the limit

pub long_document : (bytes : List ℕ) → document.most < length bytes → IsRefused document bytes (error BadDescription (refusal_text (refused TooLong WholeDocument)))
long_document bytes long = long_is_refused (List ℕ) IsMigrated bytes long

pub long_edited : (bytes : List ℕ) → edited.most < length bytes → IsRefused edited bytes (error BadDescription (refusal_text (refused TooLong WholeDocument)))
long_edited bytes long = long_is_refused Members (λ bytes table. IsStarted bytes (Ok table)) bytes long

pub long_rules : (dialect : Dialect) (bytes : List ℕ) → (rules dialect).most < length bytes → IsRefused (rules dialect) bytes (error BadText (fault_line (codes "rules") 0 (codes "TooLong")))
long_rules dialect bytes long = record { line = _; refuses = (laws_of dialect).too_long bytes long; replied = refl }

pub long_events : (bytes : List ℕ) → events.most < length bytes → IsRefused events bytes (error BadText (fault_line (codes "events") 0 (codes "TooLong")))
long_events bytes long = record { line = _; refuses = long_text (codes "events") list_reason IsRefusedInEvents bytes ListTooLong (too_long long); replied = refl }

pub long_edits : (bytes : List ℕ) → edits.most < length bytes → IsRefused edits bytes (error BadText (fault_line (codes "edits") 0 (codes "TooLong")))
long_edits bytes long = record { line = _; refuses = long_text (codes "edits") list_reason IsRefusedInEdits bytes ListTooLong (too_long long); replied = refl }
