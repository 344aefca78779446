use Rattle.decide_core.specs.inner.ServiceBoxes.{HasServiceOf}
use Rattle.decide_core.proofs.ServiceLemmas.{adds_none, adds_one, no_block}
use Rattle.decide_core.proofs.service_block.push_block.Goals as goal

pub returns-then-not-has_services : goal.returns-then-not-has_services
returns-then-not-has_services c =
    adds_none (HasServiceOf c.args.from c.args.to c.args.block) c.args.boxes.now.items
    (no_block c.args.from c.args.to c.args.block c.has_services.result c.has_services.ensures c.if-not-has_services.true)

pub returns : goal.returns
returns c =
    adds_one (HasServiceOf c.args.from c.args.to c.args.block) c.args.boxes.now.items c.push.new.self.items c.packets-within.result
    c.in_ok-push.ensures.items c.packets-within.ensures.is_box c.packets-within.ensures.exact
