use Rattle.std.proofs.Common.{take}
use Rattle.header_space.specs.Boxes.{every_packet}
use Rattle.pass_core.specs.inner.Meeting.{MarksMore}
use Rattle.pass_core.proofs.MetSetLemmas.{AreListedMarked}
use Rattle.pass_core.proofs.met_sets.mark_sets.Given as goal

abbrev pub invariant-loop-set : goal.invariant-loop-set
invariant-loop-set l = record {
  more : MarksMore every_packet l.fn.met l.met;
  marked : AreListedMarked l.diagrams (take l.set-index l.sets) l.met;
}
