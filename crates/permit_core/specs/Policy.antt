-- Lists of invariants on one set of flows, and the invariant that denies a flow. An invariant is used only as a
-- predicate, of any type. The permitted policy itself is the first subset of the requested flows on which AllHold
-- (flow_set: Conditions). The idea that invariants determine a policy is after C. Diekmann, Provably Secure Networks:
-- Methodology and Toolset for Configuration Management; that the first of several takes precedence is topoS's own
-- choice.
use Rattle.std.specs.Prelude.{◌≡◌, ℕ, List, All, take, slice_get, Some}
use Rattle.flow_set.specs.declared.flow.Flow.{Flow}

-- Every invariant of the list holds for the set.
abbrev pub AllHold : {X : Type 0} → (X → List Flow → Type 0) → List X → List Flow → Type 0
AllHold HoldsOn invs e = All (λ inv. HoldsOn inv e) invs

-- The invariant at index `number`, from 0, fails on the set, and all before it hold.
pub record IsFirstFailing {X : Type 0} (HoldsOn : X → List Flow → Type 0) (invs : List X) (e : List Flow) (number : ℕ) : Type 0 where
  pub inv : X
  pub place : slice_get invs number ≡ Some inv
  pub fails : HoldsOn inv e → ⊥
  pub earlier : AllHold HoldsOn (take number invs) e
