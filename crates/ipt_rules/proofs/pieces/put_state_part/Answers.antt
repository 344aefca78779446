use Rattle.std.proofs.Common.{append_assoc}
use Rattle.text_core.proofs.LineLaws.{cut_cut}
use Rattle.ipt_rules.proofs.pieces.put_state_part.Goals as goal

pub returns-in-Some-clause-text : goal.returns-in-Some-clause-text
returns-in-Some-clause-text c =
    rw (c.in-Some.is, c.put_states.ensures.text, c.put-option.ensures.text, c.put_negation-mark.ensures.text, c.put-module.ensures.text) (simp (cut_cut, append_assoc))
