use Rattle.std.proofs.Common.{append_assoc}
use Rattle.text_core.proofs.LineLaws.{cut_cut}
use Rattle.nft_text.proofs.line.put_protocol_match.Goals as goal

pub returns-clause-text : goal.returns-clause-text
returns-clause-text c = rw (c.put.ensures.text, c.put_protocol-proto.ensures.text, c.put-key.ensures.text) (simp (cut_cut, append_assoc))
