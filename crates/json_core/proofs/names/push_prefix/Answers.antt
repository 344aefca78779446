use Rattle.std.proofs.Common.{◌∙◌, refl, arith}
use Rattle.std.proofs.lemmas.Result.{on_ok_weaker}
use Rattle.host_net.specs.Prefix.{prefix_text}
use Rattle.host_net.proofs.PrefixTextLaws.{prefix_short}
use Rattle.text_core.proofs.LineLaws.{cut_whole}
use Rattle.json_core.proofs.names.push_prefix.Goals as goal

pub returns : goal.returns
returns c =
    let whole = cut_whole 32 (prefix_text c.args.prefix) (omega (arith, prefix_short c.args.prefix)) in
    on_ok_weaker c.push_string.result (λ last. last ∙ rw (c.put_prefix-length.ensures.text, whole) refl) c.push_string.ensures
