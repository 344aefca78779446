use Rattle.std.proofs.Common.{◌≡◌, drop}
use Rattle.nft_space.specs.inner.Checks.{are_chains}
use Rattle.nft_space.proofs.check.are_chains.Given as goal

abbrev pub invariant-loop-place : goal.invariant-loop-place
invariant-loop-place l = are_chains l.place (drop l.place l.chains) ≡ are_chains 0 l.chains
