use Rattle.pass_core.proofs.PairLemmas.{source_step}
use Rattle.pass_core.proofs.pairs.sources_of.Goals as goal

pub loop-range-preserved : goal.loop-range-preserved
loop-range-preserved g c =
    source_step (g.Q.Question.holds_of c.args.question.now) c.args.ranges.now c.loop-range.range-index _ c.every_address.result
    c.loop-range.sources.items c.push_if.new.ranges.items c.in_ok-wanted.wanted c.loop-range-test.true c.every_address.ensures c.requires
    c.loop-range.invariant c.in_ok-wanted.ensures c.in_ok-push_if.ensures
