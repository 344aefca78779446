-- Networks that differ only in their requested flows.
use Rattle.std.specs.Prelude.{Bool, true, false, List}
use Rattle.flow_set.specs.FlowSet.{with_flow}
use Rattle.flow_set.specs.inner.FlowSetView.{without_flow}
use Rattle.flow_set.specs.declared.flow.Flow.{Flow}
use Rattle.net_core.specs.Network.{Network}

-- The network with these requested flows.
abbrev pub asking : Network → List Flow → Network
asking d flows = record d { asked = record { size = d.asked.size; flows = flows } }

-- The flows, with f or without f.
abbrev pub flows_where : Bool → List Flow → Flow → List Flow
flows_where true fs f = with_flow fs f
flows_where false fs f = without_flow fs f

-- The network with f added to the requested flows, or removed from them.
abbrev pub asking_where : Bool → Network → Flow → Network
asking_where asked d f = asking d (flows_where asked d.asked.flows f)

-- The network with one more requested flow.
abbrev pub asking_for : Network → Flow → Network
asking_for d f = asking_where true d f

-- The network with one fewer requested flow.
abbrev pub not_asking_for : Network → Flow → Network
not_asking_for d f = asking_where false d f
