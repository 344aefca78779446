use Rattle.std.proofs.Common.{◌≡◌, ◌++◌}
use Rattle.nft_local.specs.inner.Part.{flows_at}
use Rattle.nft_local.proofs.part.flows_at.Given as goal

abbrev pub invariant-loop-flow : goal.invariant-loop-flow
invariant-loop-flow l = record {
  size : l.kept.size ≡ l.flows.size;
  flows : l.kept.flows ≡ flows_at l.host l.yielded;
  walk : l.yielded ++ l.flow-iterator ≡ l.flows.flows;
}
