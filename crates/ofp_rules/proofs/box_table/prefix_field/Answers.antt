use Rattle.std.proofs.Common.{◌≡◌, ℕ, Option, false, sym, subst}
use Rattle.host_net.specs.declared.prefix.Prefix.{Prefix}
use Rattle.header_space.specs.Matching.{range_fits}
use Rattle.ofp_rules.specs.Matching.{part_matches}
use Rattle.ofp_rules.proofs.BoxLemmas.{prefix_fits}
use Rattle.ofp_rules.proofs.box_table.prefix_field.Goals as goal

pub returns-in-Some : goal.returns-in-Some
returns-in-Some c =
    subst (λ (part : Option Prefix). (n : ℕ) → part_matches part n ≡ range_fits (record { low = c.first.result; high = c.last.result; negated = false }) n)
    (sym c.in-Some.is) (prefix_fits c.in-Some.prefix c.first.result c.last.result c.first.ensures c.last.ensures)
