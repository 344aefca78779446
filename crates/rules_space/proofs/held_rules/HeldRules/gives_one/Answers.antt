use Rattle.std.proofs.Common.{subst}
use Rattle.rules_space.specs.Rules.{AnyRules, filter_of}
use Rattle.rules_space.specs.Verdicts.{GivesOne}
use Rattle.rules_space.proofs.held_rules.HeldRules.gives_one.Goals as goal

pub returns : goal.returns
returns c = subst (λ (r : AnyRules). GivesOne (filter_of r)) c.self.view_is c.self.invariant
