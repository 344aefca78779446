use Rattle.header_space.specs.Boxes.{every_packet}
use Rattle.pass_core.specs.laws.MeetingLaws.{marks_by_both}
use Rattle.pass_core.proofs.MetSetLemmas.{marked_more}
use Rattle.pass_core.proofs.met_sets.mark_sets.Goals as goal

pub loop-set-preserved : goal.loop-set-preserved
loop-set-preserved c = record {
  more = marks_by_both every_packet c.args.met.now c.loop-set.met c.mark_set.new.met c.loop-set.invariant.more c.mark_set.ensures.more;
  marked = marked_more c.args.diagrams.now c.args.sets.now c.loop-set.set-index _ c.loop-set.met c.mark_set.new.met c.loop-set-test.true c.mark_set.ensures.more
      c.loop-set.invariant.marked c.mark_set.ensures.marked;
}
