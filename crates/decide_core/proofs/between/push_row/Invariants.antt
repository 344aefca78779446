use Rattle.std.proofs.Common.{◌∷◌, [], take}
use Rattle.decide_core.specs.ServiceRanges.{HasServiceBetween}
use Rattle.decide_core.specs.inner.ServiceBoxes.{AddsBoxes}
use Rattle.decide_core.proofs.between.push_row.Given as goal

abbrev pub invariant-loop-target : goal.invariant-loop-target
invariant-loop-target l = AddsBoxes (HasServiceBetween (l.source ∷ []) (take l.target-index l.to) l.low l.high) l.fn.boxes.items l.boxes.items
