use Rattle.std.proofs.Common.{arith, append_assoc}
use Rattle.text_core.proofs.LineLaws.{cut_cut}
use Rattle.report_core.specs.RefusalLine.{cause_text}
use Rattle.report_core.proofs.LineLemmas.{cause_short}
use Rattle.report_core.proofs.refusal.put_cause.Goals as goal

pub returns-clause-text : goal.returns-clause-text
unfolding cause_text
returns-clause-text c =
    rw (c.put.ensures.text, c.put-blank.ensures.text, c.put_number-number.ensures.text) (simp (cut_cut, append_assoc, c.number.ensures, c.as_bytes.ensures.value, c.name.ensures.text))

pub returns-clause-short : goal.returns-clause-short
returns-clause-short c = cause_short c.args.why (omega (arith, c.number.ensures)) (rw c.name.ensures.text at c.name.ensures.short)
