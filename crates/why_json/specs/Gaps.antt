-- A gap of a network: a flow that nobody asks for, and that would be permitted.
use Rattle.std.specs.Prelude.{List, All, IsTrue}
use Rattle.flow_set.specs.FlowSet.{with_flow}
use Rattle.flow_set.specs.declared.flow.Flow.{Flow}
use Rattle.net_core.specs.Network.{Network}
use Rattle.net_core.specs.Policies.{IsPermitted, Policy}
use Rattle.explain_core.specs.declared.finding.Finding.{Finding}
use Rattle.why_json.specs.WhyJson.{is_gap}
use Rattle.why_json.specs.Standings.{standing_of}

-- The network that asks for f too.
abbrev pub asking_too : Network → Flow → Network
asking_too d f = record d { asked = record { size = d.asked.size; flows = with_flow d.asked.flows f } }

-- If the network requested a gap too, it would permit the gap and all flows that it permits now, and no others.
abbrev pub GapsArePermitted : Network → Policy → List Finding → Type 0
GapsArePermitted d policy found =
    All (λ x. IsTrue (is_gap (standing_of d policy x.flow) x.by.items) → IsPermitted (asking_too d x.flow) (with_flow policy.permitted.flows x.flow)) found
