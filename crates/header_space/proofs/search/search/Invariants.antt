use Rattle.header_space.specs.inner.Splitting.{Seeks, volumes}
use Rattle.header_space.proofs.search.search.Given as goal

abbrev pub invariant-loop-next : goal.invariant-loop-next
invariant-loop-next g l = Seeks (g.Q.Question.holds_of l.question) l.fn.whole l.fn.found l.boxes.items l.first

abbrev pub decreases-loop-next : goal.decreases-loop-next
decreases-loop-next g l = volumes l.boxes.items
