use Rattle.std.proofs.Common.{◌∙◌, ap}
use Rattle.decide_core.specs.inner.Deciding.{Deciding, noted}
use Rattle.decide_core.proofs.deciding.Deciding.decide.Goals as goal

pub returns-clause-noted : goal.returns-clause-noted
returns-clause-noted c =
    c.note.ensures
    ∙ ap (λ (d : Deciding). noted d c.decider_within-decider.result)
    ((λ i. record {
      rules = c.decider_within-decider.ensures.rules i;
      passing = c.self.inside.passing;
      marks = c.self.inside.marks;
      by_default = c.self.inside.by_default;
    }) ∙ c.self.view_is)
