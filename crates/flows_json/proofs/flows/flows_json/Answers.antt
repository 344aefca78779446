use Rattle.std.proofs.Common.{◌++◌, ◌∙◌, List, ℕ, ap}
use Rattle.rules_space.specs.RulesView.{rules_of}
use Rattle.flows_json.specs.FlowsJson.{flows_json}
use Rattle.flows_json.proofs.flows.flows_json.Goals as goal

pub returns : goal.returns
returns c = c.in_ok-push_answer.ensures ∙ ap (λ (t : List ℕ). t ++ flows_json (rules_of c.args.rules.now) c.args.hosts.now c.args.flows.now c.args.dead.now) c.new-text.ensures.items
