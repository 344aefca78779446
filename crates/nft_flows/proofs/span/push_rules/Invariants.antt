use Rattle.std.proofs.Common.{◌≡◌, ◌≤◌, ◌+◌, ◌++◌, length, drop}
use Rattle.nft_chains.specs.Translation.{rules_of_rules}
use Rattle.nft_flows.specs.inner.Spans.{spans_of_rules}
use Rattle.nft_flows.proofs.span.push_rules.Given as goal

abbrev pub invariant-loop-index : goal.invariant-loop-index
invariant-loop-index l = record {
  spans :
      l.spans.items ++ spans_of_rules l.chain l.index l.end (drop l.index l.rules)
      ≡ l.initial.spans.items ++ spans_of_rules l.chain 0 0 l.rules;
  total : l.end + length (rules_of_rules (drop l.index l.rules)) ≡ length (rules_of_rules l.rules);
  grown : l.index ≤ l.end;
}
