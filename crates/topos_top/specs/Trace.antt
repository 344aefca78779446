-- `trace DIALECT RULES EVENTS`: the result of each event.
use Rattle.std.specs.Prelude.{List}
use Rattle.pkt_core.specs.Firewall.{Filter}
use Rattle.pkt_core.specs.declared.event.Event.{Event}
use Rattle.run_core.specs.Outcomes.{Outcomes, writes}
use Rattle.report_core.specs.Trace.{IsTrace, ReportsRun}

-- The results of the unique run of the filter of the rules over the events, from an empty connection table.
abbrev pub trace_outcomes : Filter → List Event → Outcomes
trace_outcomes filter events = writes (IsTrace filter events) (ReportsRun filter events)
