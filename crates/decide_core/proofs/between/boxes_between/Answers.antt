use Rattle.std.proofs.Common.{[], refl}
use Rattle.decide_core.specs.ServiceRanges.{HasServiceBetween}
use Rattle.decide_core.proofs.ServiceLemmas.{all_added, all_sources, begins, exactly_added, next_source}
use Rattle.decide_core.proofs.between.boxes_between.Goals as goal

pub loop-source-init : goal.loop-source-init
loop-source-init c = begins c.args.low c.args.high c.args.to.now c.new-boxes.result.items c.new-boxes.ensures.items

pub loop-source-preserved : goal.loop-source-preserved
loop-source-preserved c =
    next_source c.args.low c.args.high c.args.from.now c.args.to.now c.loop-source.source-index _ [] c.loop-source.boxes.items
    c.push_row.new.boxes.items c.loop-source-test.true c.loop-source.invariant c.in_ok-push_row.ensures

pub returns-clause-boxes : goal.returns-clause-boxes
returns-clause-boxes c =
    all_added (HasServiceBetween c.args.from.now c.args.to.now c.args.low c.args.high) [] c.loop-source.boxes.items refl
    (all_sources c.args.low c.args.high c.args.from.now c.args.to.now c.loop-source.source-index [] c.loop-source.boxes.items c.loop-source-test.false
    c.loop-source.invariant)

pub returns-clause-exact : goal.returns-clause-exact
returns-clause-exact c =
    exactly_added (HasServiceBetween c.args.from.now c.args.to.now c.args.low c.args.high) [] c.loop-source.boxes.items refl
    (all_sources c.args.low c.args.high c.args.from.now c.args.to.now c.loop-source.source-index [] c.loop-source.boxes.items c.loop-source-test.false
    c.loop-source.invariant)
