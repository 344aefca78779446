use Rattle.std.proofs.Common.{◌++◌, ◌∙◌, List, ℕ, ap}
use Rattle.compare_json.specs.CompareJson.{compare_json}
use Rattle.compare_json.proofs.compare.compare_json.Goals as goal

pub returns : goal.returns
returns c = c.in_ok-push_comparison.ensures ∙ ap (λ (t : List ℕ). t ++ compare_json c.args.hosts.now c.args.differences.now) c.new-text.ensures.items
