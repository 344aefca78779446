use Rattle.topos_top.proofs.FormatLaws.{long_document, long_edited, long_edits, long_events, long_rules}
use Rattle.topos_top.proofs.kind.KindFormat.too_long.Goals as goal

pub returns-in-Document : goal.returns-in-Document
returns-in-Document c = rw (c.in-Document.is, c.too_long_description.ensures) (λ bytes long. long_document bytes long)

pub returns-in-Rules : goal.returns-in-Rules
returns-in-Rules c = rw (c.in-Rules.is, c.bad_text.ensures) (λ bytes long. long_rules c.in-Rules.field-0 bytes long)

pub returns-in-Events : goal.returns-in-Events
returns-in-Events c = rw (c.in-Events.is, c.bad_text-in-Events.ensures) (λ bytes long. long_events bytes long)

pub returns-in-Edited : goal.returns-in-Edited
returns-in-Edited c = rw (c.in-Edited.is, c.too_long_description-in-Edited.ensures) (λ bytes long. long_edited bytes long)

pub returns-in-Edits : goal.returns-in-Edits
returns-in-Edits c = rw (c.in-Edits.is, c.bad_text-in-Edits.ensures) (λ bytes long. long_edits bytes long)
