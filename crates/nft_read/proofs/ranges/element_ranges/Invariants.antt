use Rattle.std.proofs.Common.{drop}
use Rattle.std.specs.List.{AllByRecursion}
use Rattle.nft_read.specs.Reading.{ElementFits}
use Rattle.nft_read.proofs.ranges.element_ranges.Given as goal

abbrev pub invariant-loop-element : goal.invariant-loop-element
invariant-loop-element l = AllByRecursion ElementFits (drop l.element-index l.elements) → AllByRecursion ElementFits l.elements
