use Rattle.std.proofs.Common.{◌∙◌, append_assoc}
use Rattle.std.proofs.lemmas.Result.{on_ok_weaker}
use Rattle.compare_json.specs.CompareJson.{difference_json}
use Rattle.compare_json.proofs.compare.push_difference.Goals as goal

pub returns : goal.returns
unfolding difference_json
returns c =
    on_ok_weaker c.push-6.result
    (λ last. last ∙ rw (c.in_ok-push_events.ensures, c.in_ok-push-5.ensures, c.in_ok-push_string-2.ensures, c.rules_text.ensures, c.in_ok-push-4.ensures, c.in_ok-push_string.ensures, c.list_text.ensures, c.in_ok-push-3.ensures, c.in_ok-push_owner-2.ensures, c.in_ok-push-2.ensures, c.in_ok-push_owner.ensures, c.in_ok-push.ensures) (simp append_assoc))
    c.push-6.ensures
