use Rattle.std.proofs.Common.{append_assoc}
use Rattle.text_core.proofs.LineLaws.{cut_cut}
use Rattle.nft_text.proofs.address.put_interval.Goals as goal

pub returns-clause-text : goal.returns-clause-text
returns-clause-text c = rw (c.put_address.ensures.text, c.put-dash.ensures.text, c.put_address-first.ensures.text) (simp (cut_cut, append_assoc))
