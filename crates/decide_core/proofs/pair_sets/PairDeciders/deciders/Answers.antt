use Rattle.std.proofs.Common.{◌∙◌}
use Rattle.rules_space.specs.RulesView.{rules_of}
use Rattle.decide_core.specs.ServiceRanges.{HasServiceBetween}
use Rattle.decide_core.proofs.DecidingLemmas.{are_deciders}
use Rattle.decide_core.proofs.PairSetLemmas.{pair_noted}
use Rattle.decide_core.proofs.pair_sets.PairDeciders.deciders.Goals as goal

pub returns : goal.returns
returns c =
    let rules = rules_of c.args.text.now in
    let x = c.in_ok-deciding.deciding in
    let d = c.note_sets.new.deciding in
    are_deciders rules (HasServiceBetween c.args.from.now c.args.to.now c.args.low c.args.high) d (c.note_sets.ensures.rules ∙ c.in_ok-deciding.ensures.rules)
    (c.note_sets.ensures.passing ∙ c.in_ok-deciding.ensures.passing)
    (pair_noted rules c.args.from.now c.args.to.now c.args.low c.args.high c.args.self.now c.requires.pair c.deref.result.now
    (rw c.deref.ensures.value c.in_ok-boxes.ensures.exact) x d c.in_ok-deciding.ensures.rules c.in_ok-deciding.ensures.passing
    c.in_ok-deciding.ensures.none c.note_sets.ensures) _ c.in_ok-places.ensures c.by_default.ensures
