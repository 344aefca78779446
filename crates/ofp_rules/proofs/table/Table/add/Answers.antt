use Rattle.std.proofs.Common.{◌≡◌, ◌∙◌, ap, subst, arith, List, length}
use Rattle.std.proofs.lemmas.Bool.Decides.{nat_tests}
use Rattle.ofp_rules.specs.declared.entry.Entry.{Entry}
use Rattle.ofp_rules.specs.Ambiguity.{ContradictsNone}
use Rattle.ofp_rules.specs.inner.Build.{IsFirstAgainst, IsTable}
use Rattle.ofp_rules.proofs.TableLaws.{table_more}
use Rattle.ofp_rules.proofs.EntryLemmas.{first_against_is}
use Rattle.ofp_rules.proofs.table.Table.add.Goals as goal

pub returns-in-Some-clause-refused : goal.returns-in-Some-clause-refused
returns-in-Some-clause-refused c =
    let found = c.in-Some.ensures.found in
    let first = first_against_is c.deref.result.now c.args.entry c.in-Some.first found.0 found.2 found.3 c.in-Some.ensures.first in
    let counted : c.len-count.result ≡ length c.args.self.now = omega (arith, ap length c.self.view_is) in (
      omega (arith, counted),
      subst (λ (es : List Entry). IsFirstAgainst es c.args.entry c.in-Some.first) (c.deref.ensures.value ∙ c.self.view_is) first,
      counted,
    )

pub put-requires : goal.put-requires
put-requires c =
    let none : ContradictsNone c.deref.result.now c.args.entry = c.in_default.ensures.nowhere in
    let counted : c.len-count.result ≡ length c.args.self.now = omega (arith, ap length c.self.view_is) in
    table_more c.args.self.now c.args.entry (subst IsTable c.self.view_is c.self.invariant.0) (omega (arith, counted))
    (subst (λ (es : List Entry). ContradictsNone es c.args.entry) (c.deref.ensures.value ∙ c.self.view_is) none)
    (grind (arith, nat_tests)) c.requires.asks
