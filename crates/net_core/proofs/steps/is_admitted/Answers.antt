use Rattle.std.proofs.Common.{[], ◌∷◌}
use Rattle.inv_any.specs.declared.any_inv.AnyInv.{AnyInv}
use Rattle.net_core.specs.Policies.{holds_on}
use Rattle.net_core.proofs.AdmittedLemmas.{admitted_all, admitted_next, refused_at}
use Rattle.net_core.proofs.steps.is_admitted.Goals as goal

pub returns-then-not-admits : goal.returns-then-not-admits
returns-then-not-admits c =
    refused_at (λ (inv : AnyInv). holds_on inv (c.args.flow ∷ [])) c.args.description.now.invariants c.invariants-invariant-items.result.now c.loop-invariant.invariant-index
    c.invariant-item.result c.admits.result c.invariants-invariant-items.ensures.value c.loop-invariant-test.true c.invariant-item.is c.if-not-admits.true c.admits.ensures

pub loop-invariant-preserved : goal.loop-invariant-preserved
loop-invariant-preserved c =
    admitted_next (λ (inv : AnyInv). holds_on inv (c.args.flow ∷ [])) c.args.description.now.invariants c.invariants-invariant-items.result.now c.loop-invariant.invariant-index
    c.invariant-item.result c.admits.result c.invariants-invariant-items.ensures.value c.loop-invariant-test.true c.invariant-item.is c.if-not-admits.false c.admits.ensures
    c.loop-invariant.invariant

pub returns : goal.returns
returns c =
    admitted_all (λ (inv : AnyInv). holds_on inv (c.args.flow ∷ [])) c.args.description.now.invariants c.invariants-invariant-items.result.now c.loop-invariant.invariant-index
    c.invariants-invariant-items.ensures.value c.loop-invariant-test.false c.loop-invariant.invariant
