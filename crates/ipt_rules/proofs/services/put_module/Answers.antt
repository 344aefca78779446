use Rattle.std.proofs.Common.{append_assoc}
use Rattle.text_core.proofs.LineLaws.{cut_cut}
use Rattle.ipt_rules.proofs.services.put_module.Goals as goal

pub returns-then-ports-clause-text : goal.returns-then-ports-clause-text
returns-then-ports-clause-text c =
    rw (c.if-ports.true, c.put_protocol.ensures.text, c.put-option.ensures.text) (simp (cut_cut, append_assoc))
