use Rattle.std.proofs.Common.{sym, ◌∙◌}
use Rattle.std.specs.Prelude.{IsTrue}
use Rattle.inv_any.specs.declared.any_inv.AnyInv.{AnyInv}
use Rattle.net_core.specs.Policies.{edge_mark}
use Rattle.net_core.proofs.AdmittedLemmas.{admitted_all, admitted_next, refused_at}
use Rattle.net_core.proofs.steps.is_edge_wise_network.Goals as goal

pub returns-then-not-edge_wise : goal.returns-then-not-edge_wise
returns-then-not-edge_wise c =
    refused_at (λ (inv : AnyInv). IsTrue (edge_mark inv)) c.args.description.now.invariants c.invariants-invariant-items.result.now c.loop-invariant.invariant-index
    c.invariant-item.result c.edge_wise.result c.invariants-invariant-items.ensures.value c.loop-invariant-test.true c.invariant-item.is c.if-not-edge_wise.true
    (λ says. sym c.edge_wise.ensures ∙ says, λ mark. c.edge_wise.ensures ∙ mark)

pub loop-invariant-preserved : goal.loop-invariant-preserved
loop-invariant-preserved c =
    admitted_next (λ (inv : AnyInv). IsTrue (edge_mark inv)) c.args.description.now.invariants c.invariants-invariant-items.result.now c.loop-invariant.invariant-index
    c.invariant-item.result c.edge_wise.result c.invariants-invariant-items.ensures.value c.loop-invariant-test.true c.invariant-item.is c.if-not-edge_wise.false
    (λ says. sym c.edge_wise.ensures ∙ says, λ mark. c.edge_wise.ensures ∙ mark) c.loop-invariant.invariant

pub returns : goal.returns
returns c =
    admitted_all (λ (inv : AnyInv). IsTrue (edge_mark inv)) c.args.description.now.invariants c.invariants-invariant-items.result.now c.loop-invariant.invariant-index
    c.invariants-invariant-items.ensures.value c.loop-invariant-test.false c.loop-invariant.invariant
