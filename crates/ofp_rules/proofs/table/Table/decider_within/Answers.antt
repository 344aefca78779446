use Rattle.std.proofs.Common.{List, subst, ◌∙◌}
use Rattle.ofp_rules.specs.declared.entry.Entry.{Entry}
use Rattle.ofp_rules.specs.declared.entry.Frame.TheVariants.{Ipv4}
use Rattle.ofp_rules.specs.Deciders.{IsEntryDecider, decided}
use Rattle.ofp_rules.specs.Semantics.{HasVerdict}
use Rattle.ofp_rules.proofs.table.Table.decider_within.Goals as goal

pub returns-clause-decider : goal.returns-clause-decider
returns-clause-decider c = λ p inside.
    subst (λ (es : List Entry). IsEntryDecider es (Ipv4 p) c.decider_among.result) (c.as_slice-entries.ensures.value ∙ c.self.view_is)
    (c.decider_among.ensures.decider p inside)

pub returns-clause-verdict : goal.returns-clause-verdict
returns-clause-verdict c = λ p inside.
    subst (λ (es : List Entry). HasVerdict es (Ipv4 p) (decided es c.decider_among.result)) (c.as_slice-entries.ensures.value ∙ c.self.view_is)
    (c.decider_among.ensures.verdict p inside)
