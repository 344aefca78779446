use Rattle.std.proofs.Common.{append_assoc}
use Rattle.text_core.proofs.LineLaws.{cut_cut}
use Rattle.report_core.proofs.LineLemmas.{numbered_short}
use Rattle.report_core.proofs.refusal.put_numbered.Goals as goal

pub returns-clause-text : goal.returns-clause-text
returns-clause-text c = rw (c.put_number.ensures.text, c.put-word.ensures.text) (simp (cut_cut, append_assoc))

pub returns-clause-short : goal.returns-clause-short
returns-clause-short c = numbered_short c.args.word.now c.args.number c.ranges.number.fits
