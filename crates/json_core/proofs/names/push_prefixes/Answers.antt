use Rattle.std.proofs.Common.{[], refl, ◌∙◌}
use Rattle.std.proofs.lemmas.Result.{on_ok_weaker}
use Rattle.std.specs.Prelude.{slice_get}
use Rattle.host_net.specs.Host.{Host}
use Rattle.json_core.proofs.ArrayLaws.{value_of}
use Rattle.json_core.proofs.names.push_prefixes.Goals as goal

pub returns : goal.returns
returns c =
    let prefixes = value_of (λ (h : Host). h.prefixes) (slice_get c.args.hosts.now c.args.host) c.prefixes-prefixes.result.now [] c.prefixes-prefixes.ensures in
    on_ok_weaker c.push_array.result (λ last. last ∙ rw prefixes refl) c.push_array.ensures
