use Rattle.std.proofs.Common.{◌≡◌, ◌++◌, drop}
use Rattle.nft_flows.specs.inner.Spans.{spans_from, spans_of}
use Rattle.nft_flows.proofs.span.spans_of.Given as goal

abbrev pub invariant-loop-index : goal.invariant-loop-index
invariant-loop-index l = l.spans.items ++ spans_from l.index (drop l.index l.table.chains.items) ≡ spans_of l.table
