use Rattle.header_space.proofs.BoxLaws.{own_least}
use Rattle.ofp_rules.specs.declared.entry.Frame.TheVariants.{Ipv4}
use Rattle.decide_core.proofs.ClassifyingLemmas.{entry_decides, entry_only, entry_there, rule_there}
use Rattle.decide_core.proofs.classifier.Classifier.decider_within.Goals as goal

pub returns-in-Ipt-clause-decider : goal.returns-in-Ipt-clause-decider
returns-in-Ipt-clause-decider c = λ p inside.
    rw c.in-Ipt.is (c.decider_within.ensures.decider p inside)

pub returns-in-Ipt-clause-there : goal.returns-in-Ipt-clause-there
returns-in-Ipt-clause-there c =
    let b = c.decider_within.new.within in
    rw c.in-Ipt.is
    (rule_there c.in-Ipt.walk b.least c.decider_within.result
    (c.decider_within.ensures.decider b.least (own_least b c.decider_within.ensures.part.is_box)))

pub returns-in-Ofp-clause-decider : goal.returns-in-Ofp-clause-decider
returns-in-Ofp-clause-decider c = λ p inside.
    rw (c.in-Ofp.is, c.entry_place.ensures)
    (entry_decides c.in-Ofp.table.now p c.decider_within-in-Ofp.result (c.decider_within-in-Ofp.ensures.decider p inside))

pub returns-in-Ofp-clause-only : goal.returns-in-Ofp-clause-only
returns-in-Ofp-clause-only c = λ p inside.
    rw (c.in-Ofp.is, c.entry_place.ensures)
    (entry_only c.in-Ofp.table.now p c.decider_within-in-Ofp.result (c.decider_within-in-Ofp.ensures.only p inside))

pub returns-in-Ofp-clause-there : goal.returns-in-Ofp-clause-there
returns-in-Ofp-clause-there c =
    let b = c.decider_within-in-Ofp.new.within in
    rw (c.in-Ofp.is, c.entry_place.ensures)
    (entry_there c.in-Ofp.table.now (Ipv4 b.least) c.decider_within-in-Ofp.result
    (c.decider_within-in-Ofp.ensures.decider b.least (own_least b c.decider_within-in-Ofp.ensures.part.is_box)))
