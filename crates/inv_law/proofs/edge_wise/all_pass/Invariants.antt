use Rattle.std.proofs.Common.{◌≡◌, ◌++◌}
use Rattle.inv_law.specs.Rules.{AllFlowsPass}
use Rattle.inv_law.proofs.edge_wise.all_pass.Given as goal

abbrev pub invariant-loop-f : goal.invariant-loop-f
invariant-loop-f g l = record {
  passed : AllFlowsPass (g.R.EdgeRule.passes_from l.rule) l.yielded;
  walk : l.yielded ++ l.f-iterator ≡ l.e.flows;
}
