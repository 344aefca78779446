-- The laws of an invariant that holds if every flow passes a rule, derived from the single law of the rule.
use Rattle.std.proofs.Common.{ℕ, ⊎_elim, List, [], ◌∷◌, ◌++◌, ◌∙◌, subst, sym}
use Rattle.std.specs.Prelude.{IsTrue, ◌↔◌}
use Rattle.std.proofs.lemmas.Bool.{false≢true, or_cases, or_left}
use Rattle.flow_set.specs.inner.Downward.{IsDownwardClosed, IsEdgeWise}
use Rattle.flow_set.specs.laws.FlowLaws.{has-append, has_first, has-with_flow, same_fact, same_flow_self}
use Rattle.flow_set.specs.FlowSet.{has, with_flow, without}
use Rattle.flow_set.specs.declared.flow.Flow.{Flow}
use Rattle.inv_law.specs.inner.Invariants.{ResetPreservesViolation}
use Rattle.inv_law.specs.Rules.{AllFlowsPass}
use Rattle.inv_law.specs.inner.Resets.{ResetPassesNoMore}
use Rattle.inv_law.specs.declared.strategy.Strategy.{Strategy}

pub AllFlowsPass-downward : (n : ℕ) (Passes : ℕ → ℕ → Type 0) → IsDownwardClosed n (AllFlowsPass Passes)
AllFlowsPass-downward n Passes e s is_set subset passes = λ f in_s. passes f (subset.within f in_s)

pub AllFlowsPass-none : (Passes : ℕ → ℕ → Type 0) → AllFlowsPass Passes []
AllFlowsPass-none Passes f in_none = absurd (false≢true in_none)

-- All flows of a set with one more flow pass if this flow and the others do.
pub AllFlowsPass-with : (Passes : ℕ → ℕ → Type 0) (f : Flow) (e : List Flow) → Passes f.from f.to → AllFlowsPass Passes e
    → AllFlowsPass Passes (f ∷ e)
AllFlowsPass-with Passes f e pass passes g in_both =
    ⊎_elim (λ same. same_fact (λ h. Passes h.from h.to) f g same pass) (passes g) (or_cases _ _ in_both)

pub AllFlowsPass-one : (Passes : ℕ → ℕ → Type 0) (f : Flow) → Passes f.from f.to → AllFlowsPass Passes (f ∷ [])
AllFlowsPass-one Passes f pass = AllFlowsPass-with Passes f [] pass (AllFlowsPass-none Passes)

pub AllFlowsPass-push : (Passes : ℕ → ℕ → Type 0) (e : List Flow) (f : Flow) → AllFlowsPass Passes e → Passes f.from f.to
    → AllFlowsPass Passes (e ++ f ∷ [])
AllFlowsPass-push Passes e f passes pass g in_both =
    ⊎_elim (passes g) (AllFlowsPass-one Passes f pass g) (or_cases _ _ (sym (has-append e (f ∷ []) g) ∙ in_both))

pub passes_alone : (Passes : ℕ → ℕ → Type 0) (f : Flow) → AllFlowsPass Passes (f ∷ []) → Passes f.from f.to
passes_alone Passes f passes = passes f (has_first f [])

-- If all flows pass, one more flow passes individually if and only if all pass with it.
pub AllFlowsPass-with_flow : (Passes : ℕ → ℕ → Type 0) (e : List Flow) (f : Flow) → AllFlowsPass Passes e
    → AllFlowsPass Passes (f ∷ []) ↔ AllFlowsPass Passes (with_flow e f)
AllFlowsPass-with_flow Passes e f passes = (
  λ alone g there. AllFlowsPass-with Passes f e (passes_alone Passes f alone) passes g (sym (has-with_flow e f g) ∙ there),
  λ together. AllFlowsPass-one Passes f (together f (has-with_flow e f f ∙ or_left _ _ (same_flow_self f))),
)

pub AllFlowsPass-edge_wise : (n : ℕ) (Passes : ℕ → ℕ → Type 0) → IsEdgeWise n (AllFlowsPass Passes)
AllFlowsPass-edge_wise n Passes e is_set =
    (λ passes f in_e. AllFlowsPass-one Passes f (passes f in_e), λ each f in_e. passes_alone Passes f (each f in_e))

pub AllFlowsPass-reset : (n : ℕ) (strategy : Strategy) (Passes : ℕ → ℕ → Type 0) (PassesAfterReset : ℕ → ℕ → ℕ → Type 0)
    → ResetPassesNoMore n strategy Passes PassesAfterReset
    → ResetPreservesViolation n strategy (AllFlowsPass Passes) (λ host. AllFlowsPass (PassesAfterReset host))
AllFlowsPass-reset n strategy Passes PassesAfterReset law e f host is_set minimal offending passes =
    let g : Flow = offending.flow in
    let in_e : IsTrue (has e g) = minimal.within.within g offending.offends in
    let put_back : Passes g.from g.to → AllFlowsPass Passes (with_flow (without e f) g) = λ pass x in_both.
    AllFlowsPass-with Passes g (without e f) pass minimal.holds_without x (sym (has-with_flow (without e f) g x) ∙ in_both) in
    let fails : Passes g.from g.to → ⊥ = λ pass. minimal.minimal g offending.offends (put_back pass) in
    let P : ℕ → Type 0 = λ h. PassesAfterReset h g.from g.to in
    law g (is_set.flows g in_e) fails (subst P (sym offending.blamed) (passes g in_e))
