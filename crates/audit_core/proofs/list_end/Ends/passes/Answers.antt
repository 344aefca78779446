use Rattle.std.proofs.Common.{sym, subst}
use Rattle.audit_core.specs.declared.kind.Kind.{Kind}
use Rattle.audit_core.specs.inner.Pairs.{EndsBy}
use Rattle.audit_core.proofs.list_end.Ends.passes.Goals as goal

pub returns-in-Alone-clause-alike : goal.returns-in-Alone-clause-alike
returns-in-Alone-clause-alike c = λ p inside.
    subst (λ (kind : Kind). EndsBy c.args.self.now.part.rules c.args.self.now.swaps.rules kind p c.passes_within.result) (sym c.in-Alone.is)
    (c.passes_within.ensures.passes p inside)

pub returns-in-AfterSwap-clause-alike : goal.returns-in-AfterSwap-clause-alike
returns-in-AfterSwap-clause-alike c = λ p inside.
    subst (λ (kind : Kind). EndsBy c.args.self.now.part.rules c.args.self.now.swaps.rules kind p c.passes_behind_swap.result) (sym c.in-AfterSwap.is)
    (c.passes_behind_swap.ensures.alike p inside)

pub returns-in-AfterBoth-clause-alike : goal.returns-in-AfterBoth-clause-alike
returns-in-AfterBoth-clause-alike c = λ p inside.
    subst (λ (kind : Kind). EndsBy c.args.self.now.part.rules c.args.self.now.swaps.rules kind p c.passes_behind_both.result) (sym c.in-AfterBoth.is)
    (c.passes_behind_both.ensures.alike p inside)
