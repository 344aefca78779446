use Rattle.std.proofs.Common.{◌≡◌, take, append_assoc, arith}
use Rattle.text_core.specs.inner.Line.{cut}
use Rattle.ipt_rules.specs.Text.{chain_line}
use Rattle.text_core.proofs.LineLaws.{IsWhole, cut_cut, put_whole}
use Rattle.ipt_rules.proofs.TextLaws.{chain_line_short}
use Rattle.ipt_rules.proofs.text.write_chain_line.Goals as goal

put_all : (c : goal.After-put) → take c.put.result c.put.new.buffer ≡ cut 320 (chain_line c.args.chain.now)
unfolding chain_line
put_all c =
    rw (c.put.ensures.text, c.put_policy-policy.ensures.text, c.put-blank.ensures.text, c.put-name.ensures.text, c.put-colon.ensures.text) (simp (cut_cut, append_assoc, c.policy.ensures, c.name.ensures.value))

done : (c : goal.After-put) → IsWhole 283 c.put.new.buffer (chain_line c.args.chain.now) c.put.result
done c = put_whole 320 283 c.put.new.buffer (chain_line c.args.chain.now) c.put.result c.put.array_long c.put.ensures.within (omega arith) (chain_line_short c.args.chain.now (rw (← c.name.ensures.value) c.name.ensures.short)) (put_all c)

pub returns-clause-line : goal.returns-clause-line
returns-clause-line c = (done c).same

pub returns-clause-short : goal.returns-clause-short
returns-clause-short c = (done c).short
