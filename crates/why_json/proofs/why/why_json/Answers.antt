use Rattle.std.proofs.Common.{◌++◌, ◌∙◌, List, ℕ, ap}
use Rattle.why_json.specs.WhyJson.{why_json}
use Rattle.why_json.proofs.why.why_json.Goals as goal

pub returns : goal.returns
returns c = c.in_ok-push_explanation.ensures ∙ ap (λ (t : List ℕ). t ++ why_json c.args.description.now c.args.explanation.now) c.new-text.ensures.items
