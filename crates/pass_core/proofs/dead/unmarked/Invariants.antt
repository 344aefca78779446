use Rattle.pass_core.specs.inner.Meeting.{IsUnmarked}
use Rattle.pass_core.specs.inner.Places.{AreBefore}
use Rattle.pass_core.proofs.dead.unmarked.Given as goal

abbrev pub invariant-loop-chain : goal.invariant-loop-chain
invariant-loop-chain l = AreBefore (IsUnmarked l.rules l.marks) (record { chain = l.chain; rule = 0 }) l.places.items
