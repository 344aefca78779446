use Rattle.std.proofs.Common.{append_assoc}
use Rattle.text_core.proofs.LineLaws.{cut_cut}
use Rattle.nft_text.proofs.element.put_goto.Goals as goal

pub returns-clause-text : goal.returns-clause-text
returns-clause-text c = rw (c.put.ensures.text, c.chain_name.ensures, c.put-goto.ensures.text) (simp (cut_cut, append_assoc))
