use Rattle.std.proofs.Common.{arith}
use Rattle.ipt_rules.specs.Text.{table_line}
use Rattle.text_core.proofs.LineLaws.{IsWhole, put_whole}
use Rattle.ipt_rules.proofs.text.write_table_line.Goals as goal

done : (c : goal.After-put) → IsWhole 283 c.put.new.buffer table_line c.put.result
done c = put_whole 320 283 c.put.new.buffer table_line c.put.result c.put.array_long c.put.ensures.within (omega arith) (omega arith) c.put.ensures.text

pub returns-clause-line : goal.returns-clause-line
returns-clause-line c = (done c).same

pub returns-clause-short : goal.returns-clause-short
returns-clause-short c = (done c).short
