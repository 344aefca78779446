use Rattle.std.proofs.Common.{◌∙◌, append_assoc}
use Rattle.std.proofs.lemmas.Result.{on_ok_weaker}
use Rattle.changes_json.specs.ChangesJson.{change_json}
use Rattle.changes_json.proofs.changes.push_change.Goals as goal

pub returns : goal.returns
unfolding change_json
returns c =
    on_ok_weaker c.push-5.result
    (λ last. last ∙ rw (c.in_ok-push_array.ensures, c.deref.ensures.value, c.in_ok-push-4.ensures, c.in_ok-push_string.ensures, c.kind_text.ensures, c.in_ok-push-3.ensures, c.in_ok-push_named-2.ensures, c.in_ok-push-2.ensures, c.in_ok-push_named.ensures, c.in_ok-push.ensures) (simp append_assoc))
    c.push-5.ensures
