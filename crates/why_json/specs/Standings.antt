-- What the description and the policy of a network say of a flow.
use Rattle.flow_set.specs.FlowSet.{has}
use Rattle.flow_set.specs.declared.flow.Flow.{Flow}
use Rattle.net_core.specs.Network.{Network}
use Rattle.net_core.specs.Policies.{Policy}
use Rattle.why_json.specs.declared.standing.Standing.{Standing}

-- The standing of the flow f: whether it is requested, whether it is permitted, and whether its answers may pass.
abbrev pub standing_of : Network → Policy → Flow → Standing
standing_of d policy f =
    record { flow = f; asked = has d.asked.flows f; permitted = has policy.permitted.flows f; answered = has policy.stateful.flows f }
