use Rattle.pass_core.proofs.PairLemmas.{hull_step}
use Rattle.pass_core.proofs.pairs.hull_from.Goals as goal

pub loop-range-preserved : goal.loop-range-preserved
loop-range-preserved c = record {
  range = c.joined-hull.ensures.range;
  covers =
      hull_step c.args.ranges.now c.loop-range.range-index _ c.loop-range.hull c.joined-hull.result c.loop-range-test.true
      c.loop-range.invariant.covers c.joined-hull.ensures.left c.joined-hull.ensures.right;
}
