use Rattle.std.proofs.Common.{◌≡◌, ℕ, Option, sym, subst}
use Rattle.header_space.specs.Matching.{range_fits}
use Rattle.ipt_rules.specs.declared.rule.AddrMatch.{AddrMatch}
use Rattle.ipt_rules.specs.Matching.{address_matches}
use Rattle.ipt_rules.proofs.HeaderLemmas.{address_fits}
use Rattle.rules_set.proofs.header.address_field.Goals as goal

pub returns-in-Some : goal.returns-in-Some
returns-in-Some c =
    subst (λ (part : Option AddrMatch). (n : ℕ) → address_matches part n ≡ range_fits (record { low = c.first.result; high = c.last.result; negated = c.in-Some.asked.negated }) n)
    (sym c.in-Some.is) (address_fits c.in-Some.asked c.first.result c.last.result c.first.ensures c.last.ensures)
