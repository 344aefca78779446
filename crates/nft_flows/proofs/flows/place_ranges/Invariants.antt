use Rattle.std.proofs.Common.{take}
use Rattle.std.specs.List.{AllZip}
use Rattle.nft_flows.specs.inner.Selected.{IsPlacedRange}
use Rattle.nft_flows.proofs.flows.place_ranges.Given as goal

abbrev pub invariant-loop-range : goal.invariant-loop-range
invariant-loop-range l = AllZip (IsPlacedRange l.spans) (take l.range-index l.ranges) l.placed.items
