use Rattle.pass_core.proofs.SurveyLemmas.{asked_part}
use Rattle.pass_core.proofs.asked_area.ask_area.Goals as goal

pub returns-clause-asked : goal.returns-clause-asked
returns-clause-asked g c =
    asked_part g.Q.Question.holds_of c.args.question.now c.args.area c.box_between.result c.in_ok-part.part c.requires c.box_between.ensures.inside
    c.in_ok-part.ensures
