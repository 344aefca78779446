use Rattle.std.proofs.Common.{[], take}
use Rattle.decide_core.specs.ServiceRanges.{HasServiceBetween}
use Rattle.decide_core.specs.inner.ServiceBoxes.{AddsBoxes}
use Rattle.decide_core.proofs.between.boxes_between.Given as goal

abbrev pub invariant-loop-source : goal.invariant-loop-source
invariant-loop-source l = AddsBoxes (HasServiceBetween (take l.source-index l.from) l.to l.low l.high) [] l.boxes.items
