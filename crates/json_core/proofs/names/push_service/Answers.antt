use Rattle.std.proofs.Common.{◌∙◌, append_assoc}
use Rattle.std.proofs.lemmas.Result.{on_ok_weaker}
use Rattle.json_core.specs.Json.{service_json}
use Rattle.json_core.proofs.names.push_service.Goals as goal

pub returns : goal.returns
unfolding service_json
returns c =
    on_ok_weaker c.push-2.result
    (λ last. last ∙ rw (c.in_ok-push_service_ports.ensures, c.in_ok-push_protocol.ensures, c.in_ok-push.ensures) (simp append_assoc))
    c.push-2.ensures
