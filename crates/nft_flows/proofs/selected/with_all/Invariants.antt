use Rattle.std.proofs.Common.{◌≡◌, take}
use Rattle.nft_flows.specs.inner.Selected.{has_all, selected}
use Rattle.nft_flows.proofs.selected.with_all.Given as goal

abbrev pub invariant-loop-span : goal.invariant-loop-span
invariant-loop-span l = l.places.items ≡ selected (has_all l.rules) (take l.span-index l.spans)
