use Rattle.std.proofs.Common.{◌++◌, ◌∙◌, List, ℕ, ap}
use Rattle.changes_json.specs.ChangesJson.{changes_json}
use Rattle.changes_json.proofs.changes.changes_json.Goals as goal

pub returns : goal.returns
returns c =
    c.in_ok-push_changes.ensures
    ∙ ap (λ (t : List ℕ). t ++ changes_json c.args.new.now c.args.old.now c.args.changes.now c.args.weakening.now) c.new-text.ensures.items
