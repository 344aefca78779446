use Rattle.rules_space.specs.RulesView.{rules_of}
use Rattle.decide_core.specs.Deciders.{IsInOne}
use Rattle.decide_core.proofs.DecidingLemmas.{are_deciders}
use Rattle.decide_core.proofs.deciders.deciders_of.Goals as goal

pub returns : goal.returns
returns c =
    are_deciders (rules_of c.args.text.now) (IsInOne c.args.boxes.now) c.in_ok-deciding.deciding c.in_ok-deciding.ensures.rules
    c.in_ok-deciding.ensures.passing c.in_ok-deciding.ensures.noted _ c.in_ok-places.ensures c.by_default.ensures
