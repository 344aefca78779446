use Rattle.pass_core.specs.inner.Places.{AreBefore}
use Rattle.decide_core.specs.inner.Marked.{IsMarked}
use Rattle.decide_core.proofs.marked.push_marked.Given as goal

abbrev pub invariant-loop-rule : goal.invariant-loop-rule
invariant-loop-rule l = AreBefore (IsMarked l.marks) (record { chain = l.chain; rule = l.rule }) l.places.items
