-- The packets of a flow for which an invariant is tested: the packets of the flow, or its answers.
use Rattle.flow_set.specs.declared.flow.Flow.{Flow}
use Rattle.flow_set.specs.Flow.{reverse_of}
use Rattle.explain_core.specs.declared.direction.Direction.{Direction}
use Rattle.explain_core.specs.declared.direction.Direction.TheVariants.{Original, Reply}

-- The flow of the packets in this direction.
abbrev pub directed : Direction → Flow → Flow
directed Original f = f
directed Reply f = reverse_of f
