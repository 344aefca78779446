use Rattle.header_space.proofs.BoxLaws.{narrows_in}
use Rattle.audit_core.proofs.ListEndLaws.{differs_where, other_where, same_where}
use Rattle.audit_core.proofs.list_end.Ends.differs.Goals as goal

pub returns-clause-alike : goal.returns-clause-alike
returns-clause-alike c = λ p inside.
    differs_where c.args.self.now c.gives_one.ensures c.gives_one-2.ensures c.args.direction.kind p (c.last-last.ensures.packets p
    (narrows_in c.expects-expected.new.within c.passes.new.within p c.passes.ensures.part inside))
    c.passes.result c.expects-expected.result c.args.direction.forwards _ (c.passes.ensures.alike p inside)
    (c.expects-expected.ensures.alike p (narrows_in c.expects-expected.new.within c.passes.new.within p c.passes.ensures.part inside))
    (other_where c.expects-expected.result c.args.direction.forwards c.if-expected-direction.false) (same_where c.passes.result c.args.direction.forwards)
