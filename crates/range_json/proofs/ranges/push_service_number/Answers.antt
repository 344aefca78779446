use Rattle.std.proofs.Common.{◌∙◌, append_assoc}
use Rattle.std.proofs.lemmas.Result.{on_ok_weaker}
use Rattle.range_json.specs.RangeJson.{service_number_json}
use Rattle.range_json.proofs.ranges.push_service_number.Goals as goal

pub returns : goal.returns
unfolding service_number_json
returns c =
    on_ok_weaker c.push-3.result
    (λ last. last ∙ rw (c.in_ok-push_decimal-2.ensures, c.in_ok-push-2.ensures, c.in_ok-push_decimal.ensures, c.in_ok-push.ensures) (simp append_assoc))
    c.push-3.ensures
