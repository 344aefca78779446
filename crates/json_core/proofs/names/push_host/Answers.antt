use Rattle.std.proofs.Common.{refl, ◌∙◌, []}
use Rattle.std.proofs.lemmas.Result.{on_ok_weaker}
use Rattle.std.specs.Prelude.{slice_get}
use Rattle.host_net.specs.Host.{Host}
use Rattle.json_core.specs.Json.{host_json}
use Rattle.json_core.proofs.ArrayLaws.{value_of}
use Rattle.json_core.proofs.names.push_host.Goals as goal

pub returns : goal.returns
unfolding host_json
returns c =
    let name = value_of (λ (h : Host). h.name) (slice_get c.args.hosts.now c.args.host) c.name-name.result [] c.name-name.ensures in
    on_ok_weaker c.push_string.result (λ last. last ∙ rw (c.bytes.ensures.value, name) refl) c.push_string.ensures
