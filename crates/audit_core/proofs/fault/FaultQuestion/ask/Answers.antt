use Rattle.std.proofs.Common.{◌↔◌, IsTrue, Option, sym, subst}
use Rattle.audit_core.specs.declared.kind.Kind.{Kind}
use Rattle.audit_core.specs.inner.Faults.{HasFault}
use Rattle.audit_core.proofs.fault.FaultQuestion.ask.Goals as goal

pub returns-in-None-clause-alike : goal.returns-in-None-clause-alike
returns-in-None-clause-alike c = λ p inside.
    subst (λ (kind : Option Kind). IsTrue c.has_fault.result ↔ HasFault c.args.self.now.part kind p) (sym c.in-None.is) (c.has_fault.ensures.alike p inside)

pub returns-in-Some-clause-alike : goal.returns-in-Some-clause-alike
returns-in-Some-clause-alike c = λ p inside.
    subst (λ (kind : Option Kind). IsTrue c.is_fault.result ↔ HasFault c.args.self.now.part kind p) (sym c.in-Some.is) (c.is_fault.ensures.alike p inside)
