-- The invariants that deny a flow or its answers, and minimal failing sets. The definitions are generic over the type of invariants.
use Rattle.std.specs.Prelude.{◌≡◌, ◌<◌, ◌==◌, ◌||◌, ◌⊎◌, ℕ, Bool, true, false, List, [], ◌∷◌, IsTrue, IsFalse, slice_get, Some}
use Rattle.flow_set.specs.declared.flow.Flow.{Flow}
use Rattle.flow_set.specs.Flow.{reverse_of, before}
use Rattle.flow_set.specs.FlowSet.{has, IsSubset, with_flow, with_back}
use Rattle.inv_law.specs.declared.strategy.Strategy.{Strategy}
use Rattle.state_core.specs.Stateful.{is_strict}

-- ---- failing invariants

-- The number is in the list.
abbrev pub among : List ℕ → ℕ → Bool
among [] k = false
among (n ∷ ns) k = (n == k) || among ns k

-- Each number is less than all numbers after it, so the list has no repeats.
abbrev pub IsAscending : List ℕ → Type 0
IsAscending [] = Unit {0}
IsAscending (n ∷ ns) = ((k : ℕ) → IsTrue (among ns k) → n < k) × IsAscending ns

-- The invariant at the index `number`, from 0, is chosen and fails on e.
pub record FailsAt {X : Type 0} (chosen : X → Bool) (HoldsOn : X → List Flow → Type 0) (invs : List X) (e : List Flow) (number : ℕ) : Type 0 where
  pub inv : X
  pub place : slice_get invs number ≡ Some inv
  pub counts : IsTrue (chosen inv)
  pub fails : HoldsOn inv e → ⊥

-- The numbers are those of all chosen invariants that fail on e, in ascending order: each of these fails, and every other chosen
-- invariant holds.
pub record AreFailing {X : Type 0} (chosen : X → Bool) (HoldsOn : X → List Flow → Type 0) (invs : List X) (e : List Flow) (numbers : List ℕ) : Type 0 where
  pub ascending : IsAscending numbers
  pub failing : (number : ℕ) → IsTrue (among numbers number) → FailsAt chosen HoldsOn invs e number
  pub others : (number : ℕ) (inv : X) → slice_get invs number ≡ Some inv → IsTrue (chosen inv) → IsFalse (among numbers number) → HoldsOn inv e

-- The numbers are those of all invariants that deny the flow f given the permitted flows p: they fail on p with f.
abbrev pub AreDenying : {X : Type 0} → (X → List Flow → Type 0) → List X → (p : List Flow) → (f : Flow) → List ℕ → Type 0
AreDenying HoldsOn invs p f numbers = AreFailing (λ _. true) HoldsOn invs (with_flow p f) numbers

-- The numbers are those of all invariants that deny the answers of the flow f given the permitted flows p and the answers of the
-- stateful flows s: they are strict, and fail on p and these answers with the answer of f.
abbrev pub AreDenyingAnswers : {X : Type 0} → (X → Strategy) → (X → Bool) → (X → List Flow → Type 0) → List X → (p s : List Flow) → (f : Flow) → List ℕ → Type 0
AreDenyingAnswers strategy_of edge_mark HoldsOn invs p s f numbers =
    AreFailing (λ inv. is_strict (strategy_of inv) (edge_mark inv)) HoldsOn invs (with_flow (with_back p s) (reverse_of f)) numbers

-- ---- minimal failing sets

-- w is a minimal failing set of e (a minimal unsatisfiable core): the condition fails on this subset of e, and holds on
-- every subset of w that lacks a flow of w.
pub record IsMinimalFailing (Holds : List Flow → Type 0) (e w : List Flow) : Type 0 where
  pub within : IsSubset w e
  pub fails : Holds w → ⊥
  pub minimal : (s : List Flow) → IsSubset s w → (f : Flow) → IsTrue (has w f) → IsFalse (has s f) → Holds s

-- xs has a flow that ys lacks, and xs and ys have the same flows after it in the order of flows.
pub record DiffersLastIn (xs ys : List Flow) : Type 0 where
  pub flow : Flow
  pub here : IsTrue (has xs flow)
  pub not_there : IsFalse (has ys flow)
  pub same_after : (f : Flow) → IsTrue (before flow f) → has xs f ≡ has ys f

-- w is the least failing set of e in the colexicographic order: the condition fails on this subset of e, and every other subset of e on
-- which it fails has the last flow in which the two differ. The set is unique (LeastLaws: least_is_one).
pub record IsLeastFailing (Holds : List Flow → Type 0) (e w : List Flow) : Type 0 where
  pub within : IsSubset w e
  pub fails : Holds w → ⊥
  pub least : (s : List Flow) → IsSubset s e → (Holds s → ⊥) → (s ≡ w) ⊎ DiffersLastIn s w
