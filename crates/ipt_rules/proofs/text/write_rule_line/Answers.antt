use Rattle.std.proofs.Common.{◌≡◌, take, append_assoc, arith}
use Rattle.text_core.specs.inner.Line.{cut}
use Rattle.ipt_rules.specs.Text.{rule_line}
use Rattle.text_core.proofs.LineLaws.{IsWhole, cut_cut, put_whole}
use Rattle.ipt_rules.proofs.TextLaws.{rule_line_short}
use Rattle.ipt_rules.proofs.text.write_rule_line.Goals as goal

put_all : (c : goal.After-put_target) → take c.put_target.result c.put_target.new.buffer ≡ cut 320 (rule_line c.args.chains.now c.args.name.now c.args.rule.now)
unfolding rule_line
put_all c =
    rw (c.put_target.ensures.text, c.put_state_part-state.ensures.text, c.put_service-service.ensures.text, c.put_address_part-dst.ensures.text, c.put_address_part-src.ensures.text, c.put-chain.ensures.text, c.put-command.ensures.text) (simp (cut_cut, append_assoc))

done : (c : goal.After-put_target) → IsWhole 283 c.put_target.new.buffer (rule_line c.args.chains.now c.args.name.now c.args.rule.now) c.put_target.result
done c = put_whole 320 283 c.put_target.new.buffer (rule_line c.args.chains.now c.args.name.now c.args.rule.now) c.put_target.result c.put_target.array_long c.put_target.ensures.within (omega arith) (rule_line_short c.args.chains.now c.args.name.now c.args.rule.now c.requires.name c.requires.parts c.put_target.ensures.short) (put_all c)

pub returns-clause-line : goal.returns-clause-line
returns-clause-line c = (done c).same

pub returns-clause-short : goal.returns-clause-short
returns-clause-short c = (done c).short
