use Rattle.pass_core.specs.inner.Places.{AreBefore}
use Rattle.decide_core.specs.inner.Marked.{IsMarked}
use Rattle.decide_core.proofs.marked.marked_places.Given as goal

abbrev pub invariant-loop-chain : goal.invariant-loop-chain
invariant-loop-chain l = AreBefore (IsMarked l.marks) (record { chain = l.chain; rule = 0 }) l.places.items
