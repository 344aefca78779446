use Rattle.std.proofs.Common.{◌≡◌, [], drop, map}
use Rattle.nft_space.specs.inner.Checks.{are_distinct}
use Rattle.nft_space.proofs.check.are_distinct.Given as goal

abbrev pub invariant-loop-chain : goal.invariant-loop-chain
invariant-loop-chain l = are_distinct (map (λ key. key.items) l.seen.keys) (drop l.chain-index l.chains) ≡ are_distinct [] l.chains
