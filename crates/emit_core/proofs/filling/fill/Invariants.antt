use Rattle.emit_core.proofs.FillingLemmas.{IsFilling}
use Rattle.emit_core.proofs.filling.fill.Given as goal

abbrev pub invariant-loop-rule : goal.invariant-loop-rule
invariant-loop-rule l = IsFilling l.chain l.rules l.fn.chains l.chains l.rule-index
