use Rattle.std.proofs.Common.{append_assoc}
use Rattle.text_core.proofs.LineLaws.{cut_cut}
use Rattle.ipt_rules.proofs.pieces.put_target.Goals as goal

pub returns-in-Jump-clause-text : goal.returns-in-Jump-clause-text
returns-in-Jump-clause-text c =
    rw (c.in-Jump.is, c.put-in-Jump.ensures.text, c.put-name.ensures.text, c.put-option.ensures.text) (simp (cut_cut, append_assoc, c.name_of.ensures.value))
