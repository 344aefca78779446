use Rattle.decide_core.proofs.ruleset_walk.RulesetWalk.decider_within.Goals as goal

pub returns-clause-decider : goal.returns-clause-decider
returns-clause-decider c = rw c.self.view_is at c.meet_within.ensures.decider
