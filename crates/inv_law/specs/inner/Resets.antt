-- The reset of a host to the default attribute, and secure defaults, for which a reset cannot hide a violation.
use Rattle.std.specs.Prelude.{ℕ, List, slice_set}
use Rattle.flow_set.specs.Flow.{IsFlow}
use Rattle.flow_set.specs.declared.flow.Flow.{Flow}
use Rattle.inv_law.specs.Attributes.{PassesBetween}
use Rattle.inv_law.specs.inner.Invariants.{blamed_host}
use Rattle.inv_law.specs.declared.strategy.Strategy.{Strategy}
use Rattle.inv_law.specs.declared.strategy.Strategy.TheVariants.{Access, Information}

-- A flow passes with the default attribute at a host.
abbrev pub PassesAfterReset : {A : Type 0} → A → (A → A → Type 0) → List A → ℕ → ℕ → ℕ → Type 0
PassesAfterReset default Passes attributes host = PassesBetween default Passes (slice_set attributes host default)

-- The default is secure: a flow that passes with the default at the offending host passes with any attribute there.
abbrev pub IsSecureDefault : {A : Type 0} → Strategy → A → (A → A → Type 0) → Type 0
IsSecureDefault {A} Access default Passes = (sender receiver : A) → Passes default receiver → Passes sender receiver
IsSecureDefault {A} Information default Passes = (sender receiver : A) → Passes sender default → Passes sender receiver

-- A flow that does not pass still does not pass after the reset of its offending host.
abbrev pub ResetPassesNoMore : ℕ → Strategy → (ℕ → ℕ → Type 0) → (ℕ → ℕ → ℕ → Type 0) → Type 0
ResetPassesNoMore n strategy Passes PassesAfterReset =
    (f : Flow) → IsFlow n f → (Passes f.from f.to → ⊥) → PassesAfterReset (blamed_host strategy f) f.from f.to → ⊥
