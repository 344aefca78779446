-- The offending host of a flow that violates an invariant, and the requirement on default attributes. After the entry
-- Network_Security_Policy_Verification of the Archive of Formal Proofs.
use Rattle.std.specs.Prelude.{◌≡◌, ℕ, List, IsTrue}
use Rattle.flow_set.specs.Conditions.{IsMinimalOffending}
use Rattle.flow_set.specs.FlowSet.{has}
use Rattle.flow_set.specs.inner.FlowSetView.{IsFlowSet}
use Rattle.flow_set.specs.declared.flow.Flow.{Flow}
use Rattle.inv_law.specs.declared.strategy.Strategy.{Strategy}
use Rattle.inv_law.specs.declared.strategy.Strategy.TheVariants.{Access, Information}

-- The offending host of a flow: its sender for access control, its receiver for information flow.
abbrev pub blamed_host : Strategy → Flow → ℕ
blamed_host Access f = f.from
blamed_host Information f = f.to

-- The host is the offending host of some flow of the set.
pub record IsOffendingHost (strategy : Strategy) (f : List Flow) (host : ℕ) : Type 0 where
  pub flow : Flow
  pub offends : IsTrue (has f flow)
  pub blamed : blamed_host strategy flow ≡ host

-- If an invariant fails on a set, it still fails after an offending host is reset to the default. So omitting an attribute cannot hide a
-- violation.
abbrev pub ResetPreservesViolation : ℕ → Strategy → (List Flow → Type 0) → (ℕ → List Flow → Type 0) → Type 0
ResetPreservesViolation n strategy Holds HoldsAfterReset =
    (e f : List Flow) (host : ℕ) → IsFlowSet n e → IsMinimalOffending Holds e f → IsOffendingHost strategy f host → HoldsAfterReset host e → ⊥
