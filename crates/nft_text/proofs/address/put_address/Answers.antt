use Rattle.std.proofs.Common.{append_assoc}
use Rattle.text_core.proofs.LineLaws.{cut_cut}
use Rattle.host_net.specs.Prefix.{address_text}
use Rattle.nft_text.proofs.address.put_address.Goals as goal

pub returns-clause-text : goal.returns-clause-text
unfolding address_text
returns-clause-text c = rw (c.put_number.ensures.text, c.octet.ensures, c.put_octet-third.ensures.text, c.put_octet-second.ensures.text, c.put_octet-first.ensures.text) (simp (cut_cut, append_assoc))
