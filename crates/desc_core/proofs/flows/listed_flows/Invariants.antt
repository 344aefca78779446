use Rattle.std.proofs.Common.{◌≡◌, ◌+◌, [], drop, take}
use Rattle.flow_set.specs.Flow.{same_flow}
use Rattle.flow_set.specs.FlowSet.{set_of}
use Rattle.flow_set.specs.declared.flow.Flow.{Flow}
use Rattle.text_core.specs.FirstMatch.{Numbered, first_conflict_after, numbered, numbered_from}
use Rattle.desc_core.proofs.flows.listed_flows.Given as goal

abbrev pub invariant-loop-index : goal.invariant-loop-index
invariant-loop-index l = record {
  made : l.listed ≡ record { size = l.count; flows = set_of (take l.index l.flows) };
  apart :
      first_conflict_after (λ (f g : Numbered Flow). same_flow f.what g.what) (numbered (take l.index l.flows)) (numbered_from (l.index + 1) (drop l.index l.flows))
      ≡ first_conflict_after (λ (f g : Numbered Flow). same_flow f.what g.what) [] (numbered l.flows);
}
