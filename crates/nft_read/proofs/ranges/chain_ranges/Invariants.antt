use Rattle.std.proofs.Common.{drop}
use Rattle.std.specs.List.{AllByRecursion}
use Rattle.nft_read.specs.Reading.{ChainFits}
use Rattle.nft_read.proofs.ranges.chain_ranges.Given as goal

abbrev pub invariant-loop-chain : goal.invariant-loop-chain
invariant-loop-chain l = AllByRecursion ChainFits (drop l.chain-index l.chains) → AllByRecursion ChainFits l.chains
