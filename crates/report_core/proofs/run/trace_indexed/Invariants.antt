-- For every run over the events from here on, the text followed by its lines has the lines of the whole run.
use Rattle.std.proofs.Common.{◌+◌, drop}
use Rattle.ipt_rules.specs.Semantics.{PassesChains}
use Rattle.pkt_core.specs.inner.ConnectionTable.{kept_in}
use Rattle.report_core.proofs.Steps.{Leaves}
use Rattle.report_core.proofs.run.trace_indexed.Given as goal

abbrev pub invariant-loop-place : goal.invariant-loop-place
invariant-loop-place l = Leaves (PassesChains l.indexed) l.events (kept_in l.track) (drop l.place l.events) (l.place + 1) l.text.items
