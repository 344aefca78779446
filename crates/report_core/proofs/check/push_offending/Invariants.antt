use Rattle.std.proofs.Common.{◌≡◌, ◌++◌}
use Rattle.std.specs.List.{flat_map}
use Rattle.report_core.specs.CheckReport.{offending_line}
use Rattle.report_core.proofs.check.push_offending.Given as goal

-- The flows so far are reported.
abbrev pub invariant-loop-flow : goal.invariant-loop-flow
invariant-loop-flow l = record {
  walk : l.yielded ++ l.flow-iterator ≡ l.flows.flows;
  text : l.text.items ≡ l.fn.text.items ++ flat_map (offending_line l.hosts) l.yielded;
}
