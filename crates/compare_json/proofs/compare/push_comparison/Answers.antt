use Rattle.std.proofs.Common.{◌∙◌, append_assoc}
use Rattle.std.proofs.lemmas.Result.{on_ok_weaker}
use Rattle.compare_json.specs.CompareJson.{compare_json}
use Rattle.compare_json.proofs.compare.push_comparison.Goals as goal

pub returns : goal.returns
unfolding compare_json
returns c =
    on_ok_weaker c.push-3.result
    (λ last. last ∙ rw (c.in_ok-push_array.ensures, c.in_ok-push-2.ensures, c.in_ok-push_bool.ensures, c.is_nothing.ensures, c.in_ok-push.ensures) (simp append_assoc))
    c.push-3.ensures
