use Rattle.std.proofs.Common.{◌≡◌, ◌++◌, take}
use Rattle.nft_chains.specs.Translation.{built_in_of, chains_from, rules_of_rules}
use Rattle.nft_chains.specs.inner.Building.{AreCounted}
use Rattle.nft_chains.proofs.chains.filled_chains.Given as goal

abbrev pub invariant-loop-place : goal.invariant-loop-place
invariant-loop-place l =
    (l.filled.chains ≡ built_in_of (rules_of_rules l.table.forward.items) ++ chains_from 0 (take l.place l.table.chains.items))
    × AreCounted l.filled.chains l.filled.count
