use Rattle.std.proofs.Common.{◌∙◌, append_assoc}
use Rattle.std.proofs.lemmas.Result.{on_ok_weaker}
use Rattle.changes_json.specs.ChangesJson.{old_host_json}
use Rattle.changes_json.proofs.changes.push_old_host.Goals as goal

pub returns : goal.returns
unfolding old_host_json
returns c =
    on_ok_weaker c.push-2.result
    (λ last. last ∙ rw (c.in_ok-push_host.ensures, c.in_ok-push.ensures) (simp append_assoc))
    c.push-2.ensures
