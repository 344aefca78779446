use Rattle.std.proofs.Common.{Bool, refl}
use Rattle.header_space.proofs.BoxLaws.{narrows_in}
use Rattle.audit_core.specs.declared.kind.Kind.{Kind}
use Rattle.audit_core.specs.declared.kind.Kind.TheVariants.{Alone, AfterSwap}
use Rattle.audit_core.specs.inner.Pairs.{DiffersBy}
use Rattle.audit_core.proofs.FaultLaws.{any_kind}
use Rattle.audit_core.proofs.list_end.Ends.any_differs.Goals as goal

pub returns-then-kind_differs-clause-alike : goal.returns-then-kind_differs-clause-alike
returns-then-kind_differs-clause-alike c = λ p inside.
    ((λ yes'. let by = (c.kind_differs.ensures.alike p inside).0 c.if-kind_differs.true in (Alone, by.0, by.1)), (λ any. refl))

pub returns-then-kind_differs-2-clause-alike : goal.returns-then-kind_differs-2-clause-alike
returns-then-kind_differs-2-clause-alike c = λ p inside.
    ((λ yes'. let by = (c.kind_differs-2.ensures.alike p inside).0 c.if-kind_differs-2.true in (AfterSwap, by.0, by.1)), (λ any. refl))

pub returns-clause-alike : goal.returns-clause-alike
returns-clause-alike c = λ p inside.
    let second = narrows_in c.kind_differs-2.new.within c.kind_differs-3.new.within p c.kind_differs-3.ensures.part inside in
    let first = narrows_in c.kind_differs.new.within c.kind_differs-2.new.within p c.kind_differs-2.ensures.part second in
    let any =
    any_kind (λ (kind : Kind). (forwards : Bool) × DiffersBy c.args.self.now kind p forwards) c.kind_differs.result c.kind_differs-2.result
    c.kind_differs-3.result (c.kind_differs.ensures.alike p first) c.if-kind_differs.false (c.kind_differs-2.ensures.alike p second)
    c.if-kind_differs-2.false (c.kind_differs-3.ensures.alike p inside) in
    ((λ yes'. let by = any.0 yes' in (by.0, by.1.0, by.1.1)), (λ holds. any.1 (holds.0, (holds.1, holds.2))))
