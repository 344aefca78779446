use Rattle.std.proofs.Common.{List, sym, subst, ◌∙◌}
use Rattle.std.specs.Option.{option_copied}
use Rattle.host_net.specs.declared.packet.Verdict.{Verdict}
use Rattle.ofp_rules.specs.declared.entry.Entry.{Entry}
use Rattle.ofp_rules.specs.declared.entry.Frame.TheVariants.{Ipv4}
use Rattle.ofp_rules.specs.Semantics.{HasVerdict}
use Rattle.ofp_rules.proofs.HighestLaws.{verdict_found}
use Rattle.ofp_rules.proofs.table.Table.verdict_within.Goals as goal

pub returns-clause-verdict : goal.returns-clause-verdict
returns-clause-verdict c = λ p inside.
    subst (λ (es : List Entry). HasVerdict es (Ipv4 p) c.verdict_by.result) (c.deref.ensures.value ∙ c.self.view_is)
    (subst (λ (v : Verdict). HasVerdict c.deref.result.now (Ipv4 p) v) (sym c.verdict_by.ensures)
    (verdict_found c.deref.result.now (Ipv4 p) (option_copied c.highest_within.result) (c.highest_within.ensures.found p inside)))
