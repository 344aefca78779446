use Rattle.std.proofs.Common.{◌≡◌, ◌++◌, List, map, drop, option_map}
use Rattle.desc_core.specs.inner.Parts.{ends_of}
use Rattle.desc_form.specs.inner.RawView.{flow_view}
use Rattle.flow_set.specs.declared.flow.Flow.{Flow}
use Rattle.table_core.specs.Listing.{each}
use Rattle.desc_core.proofs.known.found_flows.Given as goal

abbrev pub invariant-loop-flow : goal.invariant-loop-flow
invariant-loop-flow l = record {
  grown :
      option_map (λ (rest : List Flow). l.flows.items ++ rest) (each (ends_of l.hosts) (map flow_view (drop l.flow-index l.written)))
      ≡ each (ends_of l.hosts) (map flow_view l.written);
}
