use Rattle.std.proofs.Common.{◌≡◌, ◌++◌, drop}
use Rattle.std.specs.List.{flat_map}
use Rattle.nft_emit.specs.inner.Falls.{element_of}
use Rattle.nft_emit.proofs.maps.elements_of.Given as goal

abbrev pub invariant-loop-cut : goal.invariant-loop-cut
invariant-loop-cut l =
    l.elements.items ++ flat_map (element_of l.after l.verdicts) (drop l.cut-index l.cuts) ≡ flat_map (element_of l.after l.verdicts) l.cuts
