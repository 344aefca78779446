use Rattle.std.proofs.Common.{◌∙◌, append_assoc}
use Rattle.std.proofs.lemmas.Result.{on_ok_weaker}
use Rattle.changes_json.specs.ChangesJson.{changes_json}
use Rattle.changes_json.proofs.changes.push_changes.Goals as goal

pub returns : goal.returns
unfolding changes_json
returns c =
    on_ok_weaker c.push-4.result
    (λ last. last ∙ rw (c.in_ok-push_flows.ensures, c.in_ok-push-3.ensures, c.in_ok-push_array-2.ensures, c.in_ok-push-2.ensures, c.in_ok-push_array.ensures, c.in_ok-push.ensures, c.deref.ensures.value) (simp append_assoc))
    c.push-4.ensures
