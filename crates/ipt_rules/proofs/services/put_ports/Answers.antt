use Rattle.std.proofs.Common.{append_assoc}
use Rattle.text_core.proofs.LineLaws.{cut_cut}
use Rattle.ipt_rules.proofs.services.put_ports.Goals as goal

pub returns-clause-text : goal.returns-clause-text
returns-clause-text c =
    rw (c.put_last_port.ensures.text, c.put_number-first.ensures.text) (simp (cut_cut, append_assoc))
