use Rattle.header_space.specs.inner.Splitting.{volumes}
use Rattle.header_space.specs.inner.Visiting.{IsUnderWay}
use Rattle.header_space.proofs.visit.visit_all.Given as goal

abbrev pub invariant-loop-next : goal.invariant-loop-next
invariant-loop-next g l = record {
  grows : g.V.Visitor.grows l.fn.whole l.initial.visitor l.visitor;
  under_way : IsUnderWay (g.V.Visitor.knows l.visitor) l.fn.whole l.boxes.items;
}

abbrev pub decreases-loop-next : goal.decreases-loop-next
decreases-loop-next g l = volumes l.boxes.items
