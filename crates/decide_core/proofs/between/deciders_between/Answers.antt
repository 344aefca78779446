use Rattle.rules_space.specs.RulesView.{rules_of}
use Rattle.decide_core.specs.Deciders.{IsInOne}
use Rattle.decide_core.specs.ServiceRanges.{HasServiceBetween}
use Rattle.decide_core.proofs.ServiceLemmas.{same_deciders}
use Rattle.decide_core.proofs.between.deciders_between.Goals as goal

pub returns : goal.returns
returns c =
    same_deciders (rules_of c.args.text.now) (IsInOne c.deref.result.now) (HasServiceBetween c.args.from.now c.args.to.now c.args.low c.args.high)
    (rw c.deref.ensures.value c.in_ok-boxes.ensures.exact) c.in_ok-deciders.deciders c.in_ok-deciders.ensures
