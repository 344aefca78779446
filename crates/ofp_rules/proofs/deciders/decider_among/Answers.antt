use Rattle.std.proofs.Common.{sym, subst}
use Rattle.ofp_rules.specs.declared.entry.Frame.TheVariants.{Ipv4}
use Rattle.ofp_rules.specs.Deciders.{IsEntryDecider}
use Rattle.ofp_rules.proofs.DeciderLaws.{one_decider, verdict_decided}
use Rattle.ofp_rules.proofs.deciders.decider_among.Goals as goal

pub returns-clause-decider : goal.returns-clause-decider
returns-clause-decider c = λ p inside.
    subst (IsEntryDecider c.args.entries.now (Ipv4 p)) (sym c.place_of.ensures)
    (c.found_within.ensures.decider p inside)

pub returns-clause-only : goal.returns-clause-only
returns-clause-only c = λ p inside other is.
    one_decider c.args.entries.now (Ipv4 p) other c.place_of.result is
    (subst (IsEntryDecider c.args.entries.now (Ipv4 p)) (sym c.place_of.ensures)
    (c.found_within.ensures.decider p inside))

pub returns-clause-verdict : goal.returns-clause-verdict
returns-clause-verdict c = λ p inside.
    verdict_decided c.args.entries.now (Ipv4 p) c.place_of.result
    (subst (IsEntryDecider c.args.entries.now (Ipv4 p)) (sym c.place_of.ensures)
    (c.found_within.ensures.decider p inside))
