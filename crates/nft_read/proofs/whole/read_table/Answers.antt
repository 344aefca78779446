use Rattle.nft_read.proofs.WholeLaws.{stopped_cause, stopped_memory}
use Rattle.nft_read.proofs.whole.read_table.Goals as goal

pub returns-in-Err-clause-only : goal.returns-in-Err-clause-only
returns-in-Err-clause-only c = λ table is short written. stopped_memory c.args.text.now c.in-Err.fault table c.in-Err.ensures.stopped is written

pub returns-in-Err-clause-refused : goal.returns-in-Err-clause-refused
returns-in-Err-clause-refused c = stopped_cause c.args.text.now c.in-Err.fault c.in-Err.ensures.stopped
