use Rattle.pass_core.specs.inner.Areas.{box_of}
use Rattle.pass_core.proofs.SurveyLemmas.{known_by}
use Rattle.pass_core.proofs.survey.survey_area.Goals as goal

pub returns-clause-knows : goal.returns-clause-knows
returns-clause-knows g c =
    known_by g.Q.Question.holds_of c.args.question.now c.visit_all.new.visitor.question.now (box_of c.args.area c.args.survey.first) c.packets_of.result
    c.args.survey c.visit_all.new.visitor.survey c.packets_of.ensures.value c.visit_all.ensures.grows c.in_ok-visit_all.ensures.knows
