use Rattle.std.proofs.Common.{◌∙◌, sym}
use Rattle.json_core.proofs.PushLaws.{byte_escaped, byte_plain}
use Rattle.json_core.proofs.values.push_escaped_byte.Goals as goal

pub returns-then-is_escaped : goal.returns-then-is_escaped
returns-then-is_escaped c = rw (byte_escaped c.args.byte (sym c.is_escaped.ensures ∙ c.if-is_escaped.true)) c.push.ensures

pub returns-else-is_escaped : goal.returns-else-is_escaped
returns-else-is_escaped c = rw (byte_plain c.args.byte (sym c.is_escaped.ensures ∙ c.if-is_escaped.false)) c.push-else-is_escaped.ensures
