use Rattle.header_space.specs.Boxes.{every_packet}
use Rattle.pass_core.specs.inner.Meeting.{MarksMore}
use Rattle.pass_core.proofs.sample_packets.mark_chain.Given as goal

abbrev pub invariant-loop-rule : goal.invariant-loop-rule
invariant-loop-rule l = MarksMore every_packet l.fn.met l.met
