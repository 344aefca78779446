use Rattle.decide_core.specs.ServiceRanges.{HasServiceFrom}
use Rattle.decide_core.proofs.ServiceLemmas.{all_added, exactly_added}
use Rattle.decide_core.proofs.service_block.service_boxes.Goals as goal

pub returns-clause-boxes : goal.returns-clause-boxes
returns-clause-boxes c =
    all_added (HasServiceFrom c.args.from c.args.to c.args.low c.args.high) c.new-boxes.result.items c.push_services.new.boxes.items
    c.new-boxes.ensures.items c.in_ok-push_services.ensures

pub returns-clause-exact : goal.returns-clause-exact
returns-clause-exact c =
    exactly_added (HasServiceFrom c.args.from c.args.to c.args.low c.args.high) c.new-boxes.result.items c.push_services.new.boxes.items
    c.new-boxes.ensures.items c.in_ok-push_services.ensures
