use Rattle.std.proofs.Common.{◌∙◌}
use Rattle.pass_core.specs.inner.Asking.{part_or}
use Rattle.pass_core.proofs.SurveyLemmas.{step_found, step_way}
use Rattle.pass_core.proofs.survey.survey_areas.Goals as goal

pub loop-area-preserved : goal.loop-area-preserved
loop-area-preserved g c =
    let HoldsOf = g.Q.Question.holds_of in
    let q = c.args.question.now in
    let grows = rw c.question.ensures at c.in_ok-survey.ensures.grows in
    let knows = rw c.question.ensures at c.in_ok-survey.ensures.knows in
    record {
      first = grows.first ∙ c.loop-area.invariant.first;
      way =
          step_way (λ a. a.area) (λ a. HoldsOf (part_or q a.part)) (HoldsOf q) c.args.areas.now c.loop-area.area-index c.area-item.result c.loop-area.survey
          c.in_ok-survey.survey c.loop-area-test.true c.area-item.is c.requires.areas c.in_ok-survey.ensures.packets grows knows c.loop-area.invariant.way;
      found = λ _.
          step_found (λ a. a.area) (λ a. HoldsOf (part_or q a.part)) (HoldsOf q) c.args.areas.now c.loop-area.area-index c.area-item.result
          c.loop-area.survey c.in_ok-survey.survey c.loop-area-test.true c.area-item.is c.requires.areas c.in_ok-survey.ensures.packets grows knows
          c.loop-area.invariant.way;
    }
