use Rattle.std.proofs.Common.{subst}
use Rattle.flow_set.specs.FlowSet.{SetOfFlows}
use Rattle.flow_set.specs.inner.FlowSetView.{IsFlowSet}
use Rattle.flow_set.proofs.BitRows.{IsFlowSet-flows_of}
use Rattle.flow_set.proofs.set.FlowSet.size.Goals as goal

pub returns-clause-set : goal.returns-clause-set
returns-clause-set c =
    subst (λ (s : SetOfFlows). IsFlowSet s.size s.flows) c.self.view_is
    (IsFlowSet-flows_of c.self.inside.size c.self.inside.rows.items c.self.invariant)
