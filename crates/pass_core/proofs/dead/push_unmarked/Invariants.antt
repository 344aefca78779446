use Rattle.pass_core.specs.inner.Meeting.{IsUnmarked}
use Rattle.pass_core.specs.inner.Places.{AreBefore}
use Rattle.pass_core.proofs.dead.push_unmarked.Given as goal

abbrev pub invariant-loop-rule : goal.invariant-loop-rule
invariant-loop-rule l = AreBefore (IsUnmarked l.rules l.marks) (record { chain = l.chain; rule = l.rule }) l.places.items
