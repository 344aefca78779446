use Rattle.std.proofs.Common.{◌≡◌, ◌≤◌, ◌+◌, ◌++◌, length, drop}
use Rattle.std.specs.List.{flat_map}
use Rattle.nft_chains.specs.Translation.{element_rules}
use Rattle.nft_flows.specs.inner.Spans.{spans_of_elements}
use Rattle.nft_flows.proofs.span.push_map.Given as goal

abbrev pub invariant-loop-index : goal.invariant-loop-index
invariant-loop-index l = record {
  spans :
      l.spans.items ++ spans_of_elements l.chain l.rule l.index l.end (drop l.index l.map.elements.items)
      ≡ l.initial.spans.items ++ spans_of_elements l.chain l.rule 0 l.first l.map.elements.items;
  total :
      l.end + length (flat_map (element_rules l.map.end) (drop l.index l.map.elements.items))
      ≡ l.first + length (flat_map (element_rules l.map.end) l.map.elements.items);
  grown : l.first + l.index ≤ l.end;
}
