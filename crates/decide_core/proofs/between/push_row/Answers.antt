use Rattle.std.proofs.Common.{◌∷◌, []}
use Rattle.decide_core.specs.ServiceRanges.{HasServiceBetween}
use Rattle.decide_core.proofs.ServiceLemmas.{adds_none, all_targets, next_target, no_targets}
use Rattle.decide_core.proofs.between.push_row.Goals as goal

pub loop-target-init : goal.loop-target-init
loop-target-init c =
    adds_none (HasServiceBetween (c.args.source ∷ []) [] c.args.low c.args.high) c.args.boxes.now.items
    (no_targets c.args.low c.args.high c.args.source)

pub loop-target-preserved : goal.loop-target-preserved
loop-target-preserved c =
    next_target c.args.low c.args.high c.args.source c.args.to.now c.loop-target.target-index _ c.args.boxes.now.items c.loop-target.boxes.items
    c.push_services.new.boxes.items c.loop-target-test.true c.loop-target.invariant c.in_ok-push_services.ensures

pub returns : goal.returns
returns c =
    all_targets c.args.low c.args.high c.args.source c.args.to.now c.loop-target.target-index c.args.boxes.now.items c.loop-target.boxes.items
    c.loop-target-test.false c.loop-target.invariant
