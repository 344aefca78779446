use Rattle.std.proofs.Common.{◌∙◌, append_assoc}
use Rattle.std.proofs.lemmas.Result.{on_ok_weaker}
use Rattle.range_json.specs.RangeJson.{range_json}
use Rattle.range_json.proofs.ranges.push_range.Goals as goal

pub returns : goal.returns
unfolding range_json
returns c =
    on_ok_weaker c.push_bool.result
    (λ last. last ∙ rw (c.is_wholly.ensures, c.in_ok-push-3.ensures, c.in_ok-push_service_number-2.ensures, c.in_ok-push-2.ensures, c.in_ok-push_service_number.ensures, c.in_ok-push.ensures) (simp append_assoc))
    c.push_bool.ensures
