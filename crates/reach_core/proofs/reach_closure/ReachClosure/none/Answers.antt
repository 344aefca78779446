use Rattle.std.proofs.Common.{◌∙◌, ap}
use Rattle.flow_set.specs.FlowSet.{SetOfFlows}
use Rattle.flow_set.specs.inner.Steps.{untried}
use Rattle.reach_core.proofs.ReachRows.{HasReachRows-nothing}
use Rattle.reach_core.proofs.reach_closure.ReachClosure.none.Goals as goal

pub invariant_of-result : goal.invariant_of-result
invariant_of-result c =
    HasReachRows-nothing c.args.size c.in_ok-new.field-0 c.in_ok-new-2.field-0 c.in_ok-new-3.field-0 c.requires
    (c.in_ok-new.ensures ∙ ap (λ (s : SetOfFlows). untried s) c.in_ok-none.ensures) c.in_ok-new-2.ensures c.in_ok-new-3.ensures
