use Rattle.std.proofs.Common.{◌≡◌, ◌≤◌, ◌+◌, false, length}
use Rattle.text_core.specs.Lines.{lines}
use Rattle.ipt_plain.specs.inner.LineSteps.{text_fault}
use Rattle.ipt_plain.proofs.text.first_fault.Given as goal

abbrev pub invariant-loop-line : goal.invariant-loop-line
invariant-loop-line l = record {
  same : text_fault l.forward l.number l.lines ≡ text_fault false 1 (lines l.bytes);
  few : l.number + length l.lines ≤ 1 + length (lines l.bytes);
}

abbrev pub decreases-loop-line : goal.decreases-loop-line
decreases-loop-line l = length l.lines
