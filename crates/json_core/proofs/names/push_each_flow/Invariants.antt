use Rattle.std.proofs.Common.{◌≡◌, ◌++◌}
use Rattle.json_core.specs.Json.{flow_json, is_nothing, separated}
use Rattle.json_core.proofs.names.push_each_flow.Given as goal

-- The text has the flows so far.
abbrev pub invariant-loop-flow : goal.invariant-loop-flow
invariant-loop-flow l = record {
  walk : l.yielded ++ l.flow-iterator ≡ l.flows.flows;
  first : l.first ≡ is_nothing l.yielded;
  text : l.text.items ≡ l.fn.text.items ++ separated (flow_json l.hosts) l.yielded;
}
