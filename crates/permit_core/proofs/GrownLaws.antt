-- Lemmas on sets that grew by one flow, for implementations of `meets`: what holds for the old set, and when it suffices to test the new
-- flow.
use Rattle.std.proofs.Common.{ℕ, List, [], ◌∷◌, sym, subst}
use Rattle.std.specs.Prelude.{◌↔◌}
use Rattle.flow_set.specs.declared.flow.Flow.{Flow}
use Rattle.flow_set.specs.inner.Downward.{IsEdgeWise}
use Rattle.flow_set.proofs.ConditionLaws.{edge_wise-with_flow}
use Rattle.permit_core.specs.inner.Grown.{IsExtended}

-- An edge-wise condition holds for the set if and only if it holds for the new flow individually.
pub edge_wise-IsExtended : (n : ℕ) (Holds : List Flow → Type 0) (fs : List Flow) (added : Flow) → IsEdgeWise n Holds
    → IsExtended n Holds fs added → Holds (added ∷ []) ↔ Holds fs
edge_wise-IsExtended n Holds fs added edge_wise grown =
    subst (λ (e : List Flow). Holds (added ∷ []) ↔ Holds e) (sym grown.grown)
    (edge_wise-with_flow n Holds grown.old added edge_wise grown.set grown.flow grown.held)
