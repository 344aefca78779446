use Rattle.std.proofs.Common.{subst}
use Rattle.std.proofs.lemmas.List.{map-id}
use Rattle.std.proofs.lemmas.Result.{IfOk-weaker}
use Rattle.pkt_core.specs.EventsText.{IsReadingOfEvents}
use Rattle.pkt_core.proofs.EventFaultLaws.{event_lines_tell_one, event_lines_have_form}
use Rattle.pkt_core.proofs.ReadEventLaws.{packets_read}
use Rattle.pkt_core.proofs.events.read_events.Goals as goal

pub read_list-requires-clause-one : goal.read_list-requires-clause-one
read_list-requires-clause-one c = event_lines_tell_one

pub read_list-requires-clause-formed : goal.read_list-requires-clause-formed
read_list-requires-clause-formed c = event_lines_have_form

pub returns-clause-packets : goal.returns-clause-packets
returns-clause-packets c =
    IfOk-weaker c.read_list.result _ _
    (λ events found. packets_read c.args.bytes.now events.items (subst (IsReadingOfEvents c.args.bytes.now) (map-id events.items) found))
    c.read_list.ensures.found
