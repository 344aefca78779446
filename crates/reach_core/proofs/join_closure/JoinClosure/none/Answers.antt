use Rattle.std.proofs.Common.{◌∙◌, ap}
use Rattle.flow_set.specs.FlowSet.{SetOfFlows}
use Rattle.flow_set.specs.inner.Steps.{untried}
use Rattle.reach_core.proofs.JoinRows.{HasJoinRows-nothing}
use Rattle.reach_core.proofs.join_closure.JoinClosure.none.Goals as goal

pub invariant_of-result : goal.invariant_of-result
invariant_of-result c =
    HasJoinRows-nothing c.args.size c.in_ok-new.field-0 c.in_ok-new-2.field-0 c.requires
    (c.in_ok-new.ensures ∙ ap (λ (s : SetOfFlows). untried s) c.in_ok-none.ensures) c.in_ok-new-2.ensures
