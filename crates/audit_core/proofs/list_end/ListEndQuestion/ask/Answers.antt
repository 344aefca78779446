use Rattle.std.proofs.Common.{◌↔◌, IsTrue, Option, sym, subst}
use Rattle.audit_core.specs.declared.difference.Direction.{Direction}
use Rattle.audit_core.specs.inner.Pairs.{HoldsOf}
use Rattle.audit_core.proofs.list_end.ListEndQuestion.ask.Goals as goal

pub returns-in-None-clause-alike : goal.returns-in-None-clause-alike
returns-in-None-clause-alike c = λ p inside.
    subst (λ (d : Option Direction). IsTrue c.any_differs.result ↔ HoldsOf c.args.self.now.ends d p) (sym c.in-None.is) (c.any_differs.ensures.alike p inside)
