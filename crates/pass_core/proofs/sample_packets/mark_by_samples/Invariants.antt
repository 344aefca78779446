use Rattle.header_space.specs.Boxes.{every_packet}
use Rattle.pass_core.specs.inner.Meeting.{MarksMore}
use Rattle.pass_core.proofs.sample_packets.mark_by_samples.Given as goal

abbrev pub invariant-loop-number : goal.invariant-loop-number
invariant-loop-number l = MarksMore every_packet l.fn.met l.met
