use Rattle.std.proofs.Common.{◌∙◌, append_assoc}
use Rattle.std.proofs.lemmas.Result.{on_ok_weaker}
use Rattle.changes_json.specs.ChangesJson.{changed_range_json}
use Rattle.changes_json.proofs.changes.push_changed_range.Goals as goal

pub returns : goal.returns
unfolding changed_range_json
returns c =
    on_ok_weaker c.push-3.result
    (λ last. last ∙ rw (c.in_ok-push_header_or_null.ensures, c.in_ok-push-2.ensures, c.in_ok-push_header.ensures, c.in_ok-push.ensures, c.in_ok-push_range.ensures) (simp append_assoc))
    c.push-3.ensures
