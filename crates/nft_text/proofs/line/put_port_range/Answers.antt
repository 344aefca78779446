use Rattle.std.proofs.Common.{append_assoc}
use Rattle.text_core.proofs.LineLaws.{cut_cut}
use Rattle.nft_text.proofs.line.put_port_range.Goals as goal

pub returns-clause-text : goal.returns-clause-text
returns-clause-text c = rw (c.put_number.ensures.text, c.put-dash.ensures.text, c.put_number-first.ensures.text) (simp (cut_cut, append_assoc))
