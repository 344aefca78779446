use Rattle.std.proofs.Common.{◌∙◌, append_assoc}
use Rattle.std.proofs.lemmas.Result.{on_ok_weaker}
use Rattle.json_core.specs.Json.{flow_json}
use Rattle.json_core.proofs.names.push_flow.Goals as goal

pub returns : goal.returns
unfolding flow_json
returns c =
    on_ok_weaker c.push-3.result
    (λ last. last ∙ rw (c.in_ok-push_host-2.ensures, c.in_ok-push-2.ensures, c.in_ok-push_host.ensures, c.in_ok-push.ensures) (simp append_assoc))
    c.push-3.ensures
