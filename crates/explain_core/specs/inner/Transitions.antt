-- The search for a minimal failing set by transition flows.
use Rattle.std.specs.Prelude.{◌≡◌, ◌⊎◌, List, ◌∷◌, ◌++◌, IsTrue, IsFalse}
use Rattle.std.specs.List.{fold}
use Rattle.flow_set.specs.declared.flow.Flow.{Flow}
use Rattle.flow_set.specs.Flow.{before}
use Rattle.flow_set.specs.FlowSet.{has, IsOrdered, IsSubset, with_flow}

-- g is the transition flow of `rest`: the condition holds on the needed flows with the flows of `rest` before g, and fails with g.
pub record IsTransition (Holds : List Flow → Type 0) (needed rest : List Flow) (g : Flow) (before : List Flow) : Type 0 where
  pub left : List Flow
  pub place : before ++ g ∷ left ≡ rest
  pub holds : Holds (fold with_flow needed before)
  pub fails : Holds (with_flow (fold with_flow needed before) g) → ⊥

-- s has a flow that is not needed and that is after all flows of the rest, and s and the needed flows have the same flows after it.
pub record Exceeds (s needed rest : List Flow) : Type 0 where
  pub flow : Flow
  pub here : IsTrue (has s flow)
  pub not_needed : IsFalse (has needed flow)
  pub after_rest : (f : Flow) → IsTrue (has rest f) → IsTrue (before f flow)
  pub same_after : (f : Flow) → IsTrue (before flow f) → has s f ≡ has needed f

-- The search has narrowed e to the needed flows and the rest: the condition fails on them, and holds on every subset of them that lacks a
-- needed flow. Every other subset of e on which the condition fails exceeds them.
pub record AreNarrowed (Holds : List Flow → Type 0) (e needed rest : List Flow) : Type 0 where
  pub ordered : IsOrdered needed
  pub rest_ordered : IsOrdered rest
  pub within : IsSubset (fold with_flow needed rest) e
  pub fails : Holds (fold with_flow needed rest) → ⊥
  pub minimal : (s : List Flow) → IsSubset s (fold with_flow needed rest) → (f : Flow) → IsTrue (has needed f) → IsFalse (has s f) → Holds s
  pub least : (s : List Flow) → IsSubset s e → (Holds s → ⊥) → IsSubset s (fold with_flow needed rest) ⊎ Exceeds s needed rest
