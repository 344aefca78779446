use Rattle.std.proofs.Common.{◌≡◌, [], length}
use Rattle.text_core.specs.Lines.{words}
use Rattle.ipt_plain.specs.inner.LineSteps.{negates_all_ports}
use Rattle.ipt_plain.proofs.ports.negates_all_ports.Given as goal

abbrev pub invariant-loop-word : goal.invariant-loop-word
invariant-loop-word l = negates_all_ports l.earlier l.last l.words ≡ negates_all_ports [] [] (words l.line)

abbrev pub decreases-loop-word : goal.decreases-loop-word
decreases-loop-word l = length l.words
