use Rattle.std.proofs.Common.{refl}
use Rattle.pass_core.proofs.SurveyLemmas.{answer_grows, answer_known}
use Rattle.pass_core.proofs.survey.SurveyorVisitor.visit.Goals as goal

pub returns-clause-grows : goal.returns-clause-grows
returns-clause-grows g c =
    let Holds = g.Q.Question.holds_of c.args.self.now.question.now in (
      refl,
      rw c.note.ensures
          (answer_grows Holds c.args.within.now c.ask-answer.new.within c.args.self.now.survey c.ask-answer.result.last c.min-self.result c.ask-answer.result.passes
          (c.is_of.ensures.0 c.if-not-is_of.false) c.ask-answer.ensures.part c.ask-answer.ensures.low c.ask-answer.ensures.alike
          c.min-self.ensures.self_too c.min-self.ensures.other_too c.min-self.ensures.either),
    )

pub returns-clause-knows : goal.returns-clause-knows
returns-clause-knows g c =
    let Holds = g.Q.Question.holds_of c.args.self.now.question.now in
    rw c.note.ensures
    (answer_known Holds c.args.within.now c.ask-answer.new.within c.args.self.now.survey c.ask-answer.result.last c.min-self.result c.ask-answer.result.passes
    (c.is_of.ensures.0 c.if-not-is_of.false) c.ask-answer.ensures.part c.ask-answer.ensures.low c.ask-answer.ensures.alike
    c.min-self.ensures.self_too c.min-self.ensures.other_too c.min-self.ensures.either)
