use Rattle.std.proofs.Common.{◌∙◌}
use Rattle.decide_core.proofs.DecidingLemmas.{known_more, only_more}
use Rattle.decide_core.proofs.deciding.Deciding.of.Goals as goal

pub loop-within-preserved : goal.loop-within-preserved
loop-within-preserved c = record {
  rules = c.visit_all.ensures.grows.rules ∙ c.loop-within.invariant.rules;
  passing = c.visit_all.ensures.grows.passing ∙ c.loop-within.invariant.passing;
  known =
      known_more c.args.boxes.now c.loop-within.within-index _ c.loop-within-test.true c.loop-within.deciding c.visit_all.new.visitor
      c.visit_all.ensures.grows c.in_ok-visit_all.ensures.knows c.loop-within.invariant.known;
  only =
      only_more c.args.boxes.now c.loop-within.within-index _ c.loop-within-test.true c.loop-within.deciding c.visit_all.new.visitor
      c.visit_all.ensures.grows c.loop-within.invariant.only;
}
