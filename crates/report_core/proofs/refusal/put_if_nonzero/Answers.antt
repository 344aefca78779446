use Rattle.text_core.proofs.LineLaws.{nothing_put}
use Rattle.report_core.proofs.LineLemmas.{told_short}
use Rattle.report_core.proofs.refusal.put_if_nonzero.Goals as goal

pub returns-then-number-eq0-clause-text : goal.returns-then-number-eq0-clause-text
returns-then-number-eq0-clause-text c = rw c.if-number-eq0.true (nothing_put 256 c.args.at c.args.buffer.now c.requires)

pub returns-else-number-eq0-clause-short : goal.returns-else-number-eq0-clause-short
returns-else-number-eq0-clause-short c = told_short c.args.word.now c.args.number c.ranges.number.fits
