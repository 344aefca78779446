use Rattle.std.proofs.Common.{◌≡◌, ◌+◌, ◌-◌, drop, length}
use Rattle.std.specs.Prelude.{find, IsTrue}
use Rattle.flow_set.specs.Flow.{same_flow}
use Rattle.flow_set.specs.FlowSet.{has}
use Rattle.flow_set.specs.declared.flow.Flow.{Flow}
use Rattle.text_core.specs.FirstMatch.{Numbered, numbered_from}
use Rattle.desc_core.proofs.flows.number_of.Given as goal

abbrev pub invariant-loop-flow : goal.invariant-loop-flow
invariant-loop-flow l = record {
  there : IsTrue (has (drop l.index l.flows) l.flow);
  same :
      find (λ (f : Numbered Flow). same_flow l.flow f.what) (numbered_from (l.index + 1) (drop l.index l.flows))
      ≡ find (λ (f : Numbered Flow). same_flow l.flow f.what) (numbered_from 1 l.flows);
}

abbrev pub decreases-loop-flow : goal.decreases-loop-flow
decreases-loop-flow l = length l.flows - l.index
