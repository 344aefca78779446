use Rattle.std.proofs.Common.{take}
use Rattle.std.specs.List.{AllZip}
use Rattle.nft_flows.specs.inner.Selected.{IsPlacedPair}
use Rattle.nft_flows.proofs.flows.place_pairs.Given as goal

abbrev pub invariant-loop-pair : goal.invariant-loop-pair
invariant-loop-pair l = AllZip (IsPlacedPair l.spans) (take l.pair-index l.flows) l.placed.items
