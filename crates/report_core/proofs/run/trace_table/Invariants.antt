-- For every run over the events from here on, the text followed by its lines has the lines of the whole run.
use Rattle.std.proofs.Common.{◌+◌, drop}
use Rattle.ofp_rules.specs.Semantics.{PassesEntries}
use Rattle.pkt_core.specs.Tracking.{no_connections}
use Rattle.report_core.proofs.Steps.{Leaves}
use Rattle.report_core.proofs.run.trace_table.Given as goal

abbrev pub invariant-loop-place : goal.invariant-loop-place
invariant-loop-place l = Leaves (PassesEntries l.table) l.events no_connections (drop l.place l.events) (l.place + 1) l.text.items
