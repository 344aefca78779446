use Rattle.std.proofs.Common.{true, false, [], ◌∷◌, subst}
use Rattle.std.specs.Prelude.{◌↔◌, IsTrue}
use Rattle.flow_set.specs.declared.flow.Flow.{Flow}
use Rattle.inv_any.specs.declared.any_inv.AnyInv.{AnyInv}
use Rattle.net_core.specs.Policies.{edge_mark, holds_on, strategy_of}
use Rattle.state_core.specs.Stateful.{is_strict, StrictHold}
use Rattle.net_core.proofs.AdmittedLemmas.{admitted_all, admitted_next, refused_at}
use Rattle.net_core.proofs.steps.is_answered.Goals as goal

pub returns-then-not-admits_answer : goal.returns-then-not-admits_answer
returns-then-not-admits_answer c =
    subst (λ (answer : Flow). IsTrue false ↔ StrictHold strategy_of edge_mark holds_on c.args.description.now.invariants (answer ∷ [])) c.back-answer.ensures
    (refused_at (λ (inv : AnyInv). IsTrue (is_strict (strategy_of inv) (edge_mark inv)) → holds_on inv (c.back-answer.result ∷ [])) c.args.description.now.invariants c.invariants-invariant-items.result.now c.loop-invariant.invariant-index
    c.invariant-item.result c.admits_answer.result c.invariants-invariant-items.ensures.value c.loop-invariant-test.true c.invariant-item.is
    c.if-not-admits_answer.true c.admits_answer.ensures)

pub loop-invariant-preserved : goal.loop-invariant-preserved
loop-invariant-preserved c =
    admitted_next (λ (inv : AnyInv). IsTrue (is_strict (strategy_of inv) (edge_mark inv)) → holds_on inv (c.back-answer.result ∷ [])) c.args.description.now.invariants c.invariants-invariant-items.result.now c.loop-invariant.invariant-index
    c.invariant-item.result c.admits_answer.result c.invariants-invariant-items.ensures.value c.loop-invariant-test.true c.invariant-item.is
    c.if-not-admits_answer.false c.admits_answer.ensures c.loop-invariant.invariant

pub returns : goal.returns
returns c =
    subst (λ (answer : Flow). IsTrue true ↔ StrictHold strategy_of edge_mark holds_on c.args.description.now.invariants (answer ∷ [])) c.back-answer.ensures
    (admitted_all (λ (inv : AnyInv). IsTrue (is_strict (strategy_of inv) (edge_mark inv)) → holds_on inv (c.back-answer.result ∷ [])) c.args.description.now.invariants c.invariants-invariant-items.result.now c.loop-invariant.invariant-index
    c.invariants-invariant-items.ensures.value c.loop-invariant-test.false c.loop-invariant.invariant)
