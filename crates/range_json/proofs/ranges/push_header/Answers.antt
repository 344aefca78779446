use Rattle.std.proofs.Common.{◌∙◌, append_assoc}
use Rattle.std.proofs.lemmas.Result.{on_ok_weaker}
use Rattle.range_json.specs.RangeJson.{header_json}
use Rattle.range_json.proofs.ranges.push_header.Goals as goal

pub returns : goal.returns
unfolding header_json
returns c =
    on_ok_weaker c.push-6.result
    (λ last. last ∙ rw (c.in_ok-push_decimal-3.ensures, c.in_ok-push-5.ensures, c.in_ok-push_decimal-2.ensures, c.in_ok-push-4.ensures, c.in_ok-push_decimal.ensures, c.in_ok-push-3.ensures, c.in_ok-push_address-2.ensures, c.in_ok-push-2.ensures, c.in_ok-push_address.ensures, c.in_ok-push.ensures) (simp append_assoc))
    c.push-6.ensures
