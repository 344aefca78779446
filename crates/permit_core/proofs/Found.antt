-- For edge-wise conditions the result is the greatest set.
use Rattle.std.proofs.Common.{ℕ, List, Result, Ok, Err}
use Rattle.std.specs.Prelude.{IfOk}
use Rattle.flow_set.specs.declared.flow.Flow.{Flow}
use Rattle.flow_set.specs.FlowSet.{SetOfFlows}
use Rattle.flow_set.specs.inner.FlowSetView.{IsFlowSet}
use Rattle.flow_set.specs.Conditions.{IsFirst, IsGreatest}
use Rattle.flow_set.specs.inner.Downward.{IsEdgeWise}
use Rattle.permit_core.proofs.FirstLaws.{first_greatest}

pub greatest_found : {E : Type 0} (n : ℕ) (Holds : List Flow → Type 0) (all : List Flow) (found : Result SetOfFlows E) → IsFlowSet n all
    → IsEdgeWise n Holds → IfOk found (λ p. IsFirst Holds all p.flows) → IfOk found (λ p. IsGreatest Holds all p.flows)
greatest_found n Holds all (Ok p) set edge_wise first = first_greatest n Holds all p.flows set edge_wise first
greatest_found n Holds all (Err e) set edge_wise first = first
