use Rattle.std.proofs.Common.{◌↔◌, sym, subst}
use Rattle.audit_core.specs.declared.list_end.Ends.{Ends}
use Rattle.audit_core.specs.inner.Pairs.{DiffersSo, HoldsOf}
use Rattle.audit_core.proofs.ListEndLaws.{whole_holds}
use Rattle.audit_core.proofs.part.Part.ends.Goals as goal

pub returns : goal.returns
returns c = λ direction p is.
    subst (λ (e : Ends). HoldsOf e direction p ↔ DiffersSo c.args.self.now direction p)
    (λ i. record { part = sym c.by_ref.ensures i; swaps = sym c.by_ref-2.ensures i })
    (whole_holds c.args.self.now c.gives_one.ensures direction p is)
