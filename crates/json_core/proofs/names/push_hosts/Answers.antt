use Rattle.std.proofs.Common.{◌∙◌, append_assoc}
use Rattle.std.proofs.lemmas.Result.{on_ok_weaker}
use Rattle.json_core.specs.Json.{array_json}
use Rattle.json_core.proofs.names.push_hosts.Goals as goal

pub returns : goal.returns
unfolding array_json
returns c =
    on_ok_weaker c.push-2.result
    (λ last. last ∙ rw (c.in_ok-push_each_host.ensures, c.in_ok-push.ensures) (simp append_assoc))
    c.push-2.ensures
