use Rattle.std.proofs.Common.{arith, append_assoc, length-append}
use Rattle.text_core.proofs.LineLaws.{cut_cut}
use Rattle.report_core.specs.RefusalLine.{place_text}
use Rattle.report_core.proofs.refusal.put_place.Goals as goal

pub returns-in-Host-clause-short : goal.returns-in-Host-clause-short
unfolding place_text
returns-in-Host-clause-short c = rw c.in-Host.is (omega (arith, c.put_numbered.ensures.short))

pub returns-in-Invariant-clause-short : goal.returns-in-Invariant-clause-short
unfolding place_text
returns-in-Invariant-clause-short c = rw c.in-Invariant.is (omega (arith, c.put_numbered-in-Invariant.ensures.short))

pub returns-in-Assign-clause-text : goal.returns-in-Assign-clause-text
unfolding place_text
returns-in-Assign-clause-text c =
    rw (c.in-Assign.is, c.put_numbered-in-Assign.ensures.text, c.put_numbered-invariant.ensures.text) (simp (cut_cut, append_assoc))

pub returns-in-Assign-clause-short : goal.returns-in-Assign-clause-short
unfolding place_text
returns-in-Assign-clause-short c =
    rw c.in-Assign.is (simp length-append (omega (arith, c.put_numbered-invariant.ensures.short, c.put_numbered-in-Assign.ensures.short)))

pub returns-in-FlowAt-clause-short : goal.returns-in-FlowAt-clause-short
unfolding place_text
returns-in-FlowAt-clause-short c = rw c.in-FlowAt.is (omega (arith, c.put_numbered-in-FlowAt.ensures.short))

pub returns-in-Template-clause-short : goal.returns-in-Template-clause-short
unfolding place_text
returns-in-Template-clause-short c = rw c.in-Template.is (omega (arith, c.put_numbered-in-Template.ensures.short))
