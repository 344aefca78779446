use Rattle.std.proofs.Common.{append_assoc}
use Rattle.text_core.proofs.LineLaws.{cut_cut}
use Rattle.nft_text.proofs.address.put_octet.Goals as goal

pub returns-clause-text : goal.returns-clause-text
returns-clause-text c = rw (c.put.ensures.text, c.put_number-number.ensures.text, c.octet.ensures) (simp (cut_cut, append_assoc))
