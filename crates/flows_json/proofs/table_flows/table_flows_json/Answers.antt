use Rattle.std.proofs.Common.{◌++◌, ◌∙◌, List, ℕ, ap}
use Rattle.flows_json.specs.TableFlowsJson.{name_in, table_flows_json}
use Rattle.flows_json.proofs.table_flows.table_flows_json.Goals as goal

pub returns : goal.returns
returns c = c.in_ok-push_answer.ensures ∙ ap (λ (t : List ℕ). t ++ table_flows_json (name_in c.args.table.now) c.args.hosts.now c.args.flows.now c.args.dead.now) c.new-text.ensures.items
