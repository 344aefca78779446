use Rattle.std.proofs.Common.{sym}
use Rattle.text_core.specs.Lines.{words}
use Rattle.pkt_core.proofs.EventFaultLaws.{refused_is_bad}
use Rattle.pkt_core.proofs.EventsTextLaws.{event_told}
use Rattle.pkt_core.proofs.events.EventLinesEntryReader.read_entry.Goals as goal

pub returns-in-Ok-clause-ok : goal.returns-in-Ok-clause-ok
returns-in-Ok-clause-ok c = event_told (words c.args.line.now) c.in-Ok.event (sym c.in-Ok.ensures)

pub returns-in-Err-clause-err : goal.returns-in-Err-clause-err
returns-in-Err-clause-err c = λ before. refused_is_bad c.args._number before c.args.line.now c.in-Err.why (sym c.in-Err.ensures)
