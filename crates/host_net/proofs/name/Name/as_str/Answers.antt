use Rattle.std.proofs.lemmas.Str.{IsUtf8-from_ascii}
use Rattle.host_net.proofs.PaddedLemmas.{never_fails}
use Rattle.host_net.proofs.name.Name.as_str.Goals as goal

pub unwrap-requires : goal.unwrap-requires
unwrap-requires c = never_fails c.from_utf8.result _ _ (λ e is. is.0 (IsUtf8-from_ascii c.bytes.result.now c.bytes.ensures.ascii)) c.from_utf8.ensures.cases
