use Rattle.std.proofs.Common.{◌∙◌, append_assoc}
use Rattle.std.proofs.lemmas.Result.{on_ok_weaker}
use Rattle.json_core.specs.Json.{host_entry_json}
use Rattle.json_core.proofs.names.push_host_entry.Goals as goal

pub returns : goal.returns
unfolding host_entry_json
returns c =
    on_ok_weaker c.push-4.result
    (λ last. last ∙ rw (c.in_ok-push_bool.ensures, c.is_rest.ensures, c.in_ok-push-3.ensures, c.in_ok-push_prefixes.ensures, c.in_ok-push-2.ensures, c.in_ok-push_host.ensures, c.in_ok-push.ensures) (simp append_assoc))
    c.push-4.ensures
