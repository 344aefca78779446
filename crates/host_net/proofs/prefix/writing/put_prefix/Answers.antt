use Rattle.std.proofs.Common.{append_assoc}
use Rattle.host_net.specs.Prefix.{prefix_text}
use Rattle.text_core.proofs.LineLaws.{cut_cut}
use Rattle.host_net.proofs.prefix.writing.put_prefix.Goals as goal

pub returns-clause-text : goal.returns-clause-text
unfolding prefix_text
returns-clause-text g c =
    rw (c.put_number.ensures.text, c.put-slash.ensures.text, c.put_address-address.ensures.text) (simp (cut_cut, append_assoc))
