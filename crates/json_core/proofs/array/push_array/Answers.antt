use Rattle.std.proofs.Common.{◌∙◌, append_assoc}
use Rattle.std.proofs.lemmas.Result.{on_ok_weaker}
use Rattle.json_core.specs.Json.{array_json}
use Rattle.json_core.proofs.array.push_array.Goals as goal

pub returns : goal.returns
unfolding array_json
returns g c =
    on_ok_weaker c.push-2.result
    (λ last. last ∙ rw (c.in_ok-push_items.ensures, c.in_ok-push.ensures) (simp append_assoc))
    c.push-2.ensures
