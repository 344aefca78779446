use Rattle.std.proofs.Common.{◌↔◌, List, subst, ◌∙◌}
use Rattle.host_net.specs.declared.packet.Verdict.{Verdict}
use Rattle.ipt_rules.specs.Chain.{Chain}
use Rattle.ipt_rules.specs.DeadRules.{without_places}
use Rattle.ipt_rules.specs.Meets.{IsRuleDecider}
use Rattle.ipt_rules.specs.inner.OneOutcome.{HasVerdict}
use Rattle.ipt_rules.proofs.ruleset.Ruleset.meet_within.Goals as goal

pub returns-clause-decider : goal.returns-clause-decider
returns-clause-decider c = λ p inside.
    subst (λ (chains : List Chain). IsRuleDecider chains p c.args.state c.meet_forward.result) (c.as_slice-chains.ensures.value ∙ c.self.view_is)
    (c.meet_forward.ensures.decider p inside)

pub returns-clause-unmarked : goal.returns-clause-unmarked
returns-clause-unmarked c = λ p inside places unmarked.
    subst (λ (chains : List Chain). (v : Verdict) → (HasVerdict chains p c.args.state v ↔ HasVerdict (without_places places chains) p c.args.state v)) (c.as_slice-chains.ensures.value ∙ c.self.view_is)
    (c.meet_forward.ensures.unmarked p inside places unmarked)
