use Rattle.std.proofs.Common.{append_assoc}
use Rattle.text_core.proofs.LineLaws.{cut_cut}
use Rattle.ofp_rules.proofs.text.put_other_protocol.Goals as goal

pub returns-clause-text : goal.returns-clause-text
returns-clause-text c =
    rw (c.put.ensures.text, c.put_number-number.ensures.text, c.put-name.ensures.text) (simp (cut_cut, append_assoc))
