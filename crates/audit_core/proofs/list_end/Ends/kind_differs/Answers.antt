use Rattle.header_space.proofs.BoxLaws.{narrows_in}
use Rattle.audit_core.proofs.FaultLaws.{differs}
use Rattle.audit_core.proofs.ListEndLaws.{kind_differs_where}
use Rattle.audit_core.proofs.list_end.Ends.kind_differs.Goals as goal

pub returns-clause-alike : goal.returns-clause-alike
returns-clause-alike c = λ p inside.
    kind_differs_where c.args.self.now c.gives_one.ensures c.gives_one-2.ensures c.args.kind p (c.last-last.ensures.packets p inside)
    c.passes-passes.result c.expects-expected.result _ (c.passes-passes.ensures.alike p inside)
    (c.expects-expected.ensures.alike p
    (narrows_in c.expects-expected.new.within c.passes-passes.new.within p c.passes-passes.ensures.part inside))
    (differs c.passes-passes.result c.expects-expected.result)
