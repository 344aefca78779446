use Rattle.std.proofs.Common.{refl}
use Rattle.header_space.proofs.BoxLaws.{narrows_in}
use Rattle.audit_core.specs.declared.kind.Kind.{Kind}
use Rattle.audit_core.specs.declared.kind.Kind.TheVariants.{Alone, AfterSwap}
use Rattle.audit_core.specs.inner.Faults.{IsFault}
use Rattle.audit_core.proofs.FaultLaws.{any_kind}
use Rattle.audit_core.proofs.part.Part.has_fault.Goals as goal

pub returns-then-is_fault-clause-alike : goal.returns-then-is_fault-clause-alike
returns-then-is_fault-clause-alike c = λ p inside.
    ((λ yes'. (Alone, (c.is_fault.ensures.alike p inside).0 c.if-is_fault.true)), (λ any. refl))

pub returns-then-is_fault-2-clause-alike : goal.returns-then-is_fault-2-clause-alike
returns-then-is_fault-2-clause-alike c = λ p inside.
    ((λ yes'. (AfterSwap, (c.is_fault-2.ensures.alike p inside).0 c.if-is_fault-2.true)), (λ any. refl))

pub returns-clause-alike : goal.returns-clause-alike
returns-clause-alike c = λ p inside.
    let second = narrows_in c.is_fault-2.new.within c.is_fault-3.new.within p c.is_fault-3.ensures.part inside in
    let first = narrows_in c.is_fault.new.within c.is_fault-2.new.within p c.is_fault-2.ensures.part second in
    any_kind (λ (kind : Kind). IsFault c.args.self.now kind p) c.is_fault.result c.is_fault-2.result c.is_fault-3.result
    (c.is_fault.ensures.alike p first) c.if-is_fault.false (c.is_fault-2.ensures.alike p second) c.if-is_fault-2.false
    (c.is_fault-3.ensures.alike p inside)
