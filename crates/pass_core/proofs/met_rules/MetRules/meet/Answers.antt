use Rattle.std.proofs.Common.{ap}
use Rattle.pass_core.specs.inner.Meeting.{MetRules}
use Rattle.pass_core.proofs.met_rules.MetRules.meet.Goals as goal

pub returns-clause-chains : goal.returns-clause-chains
returns-clause-chains c = ap (λ (m : MetRules). m.chains) c.self.view_is

pub returns-clause-marked : goal.returns-clause-marked
returns-clause-marked c =
    rw (ap (λ (m : MetRules). m.marks) c.self.view_is, returns-clause-chains c) at c.meet_within-decider.ensures.marked
