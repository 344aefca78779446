use Rattle.std.proofs.Common.{subst}
use Rattle.rules_space.specs.Rules.{filter_of}
use Rattle.rules_space.specs.Verdicts.{GivesOne}
use Rattle.audit_core.specs.Sides.{Sides}
use Rattle.audit_core.proofs.part.Part.gives_one.Goals as goal

pub returns : goal.returns
returns c = subst (λ (s : Sides). GivesOne (filter_of s.rules)) c.self.view_is c.gives_one.ensures
