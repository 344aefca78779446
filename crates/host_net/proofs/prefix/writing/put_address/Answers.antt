use Rattle.std.proofs.Common.{append_assoc}
use Rattle.host_net.specs.Prefix.{address_text}
use Rattle.text_core.proofs.LineLaws.{cut_cut}
use Rattle.host_net.proofs.prefix.writing.put_address.Goals as goal

pub returns-clause-text : goal.returns-clause-text
unfolding address_text
returns-clause-text g c =
    rw (c.put_number.ensures.text, c.put-dot-3.ensures.text, c.put_number-third.ensures.text, c.put-dot-2.ensures.text, c.put_number-second.ensures.text, c.put-dot.ensures.text, c.put_number-first.ensures.text) (simp (cut_cut, append_assoc, c.octet.ensures, c.octet-2.ensures, c.octet-3.ensures, c.octet-4.ensures))
