use Rattle.std.proofs.Common.{◌↔◌, IsTrue, subst}
use Rattle.rules_space.specs.Rules.{AnyRules}
use Rattle.pass_core.specs.NewPackets.{LetsPass}
use Rattle.pass_core.proofs.NewPacketsLemmas.{passes_if}
use Rattle.pass_core.proofs.passes_new.PassesNewQuestion.ask.Goals as goal

pub returns-clause-alike : goal.returns-clause-alike
returns-clause-alike c = λ p inside.
    subst (λ (r : AnyRules). IsTrue c.passes_within-passes.result ↔ LetsPass r p) c.self.view_is
    (passes_if c.self.inside.rules c.gives_one.ensures p (c.last-last.ensures.packets p inside) c.passes_within-passes.result
    (c.passes_within-passes.ensures.passes p inside))
