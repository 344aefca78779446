use Rattle.std.proofs.Common.{append_assoc}
use Rattle.text_core.proofs.LineLaws.{cut_cut}
use Rattle.ipt_rules.proofs.services.put_asked.Goals as goal

pub returns-clause-text : goal.returns-clause-text
returns-clause-text c =
    rw (c.put_port_part.ensures.text, c.put_port_part-sport.ensures.text, c.put_module-module.ensures.text, c.put_protocol-proto.ensures.text, c.put-option.ensures.text, c.put_negation-mark.ensures.text, c.asks_for_ports.ensures) (simp (cut_cut, append_assoc))
