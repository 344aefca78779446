use Rattle.std.proofs.Common.{◌∙◌, append_assoc}
use Rattle.std.proofs.lemmas.Result.{on_ok_weaker}
use Rattle.changes_json.specs.ChangesJson.{weaker_json}
use Rattle.changes_json.proofs.changes.push_weaker.Goals as goal

pub returns : goal.returns
unfolding weaker_json
returns c =
    on_ok_weaker c.push-4.result
    (λ last. last ∙ rw (c.in_ok-push_numbers.ensures, c.deref.ensures.value, c.in_ok-push-3.ensures, c.in_ok-push_flow-2.ensures, c.in_ok-push-2.ensures, c.in_ok-push_flow.ensures, c.in_ok-push.ensures) (simp append_assoc))
    c.push-4.ensures
