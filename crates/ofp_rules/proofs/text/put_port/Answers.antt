use Rattle.std.proofs.Common.{append_assoc}
use Rattle.text_core.proofs.LineLaws.{cut_cut}
use Rattle.ofp_rules.proofs.text.put_port.Goals as goal

pub returns-in-Some-clause-text : goal.returns-in-Some-clause-text
returns-in-Some-clause-text c =
    rw (c.in-Some.is, c.put.ensures.text, c.put_number-number.ensures.text, c.put-name.ensures.text) (simp (cut_cut, append_assoc))
