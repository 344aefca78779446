use Rattle.std.proofs.Common.{◌≡◌, ◌∙◌, ◌<◌, ◌≤◌, List, Option, Some, None, ap, arith, length, subst, sym}
use Rattle.std.specs.Prelude.{IfNone, IfSome}
use Rattle.ipt_rules.specs.Chain.{Chain}
use Rattle.ipt_rules.specs.ChainTable.{rule_count, rule_limit}
use Rattle.ipt_rules.specs.Loops.{IsAcyclic}
use Rattle.ipt_rules.specs.inner.Build.{refusal_of}
use Rattle.nft_rules.specs.declared.table.Table.{Table}
use Rattle.nft_chains.specs.Translation.{HaveSameVerdicts, chains_of}
use Rattle.nft_chains.proofs.JumpLaws.{accepted, acyclic, length-chains_of}
use Rattle.nft_chains.proofs.VerdictLaws.{same_verdicts}
use Rattle.nft_chains.proofs.chains.chains_of_table.Goals as goal

-- The chains that were built, for the table itself.
chains_are : (read table : Table) (o : Option (List Chain)) (chains : List Chain) → read ≡ table → o ≡ Some chains
    → IfSome o (λ x. x ≡ chains_of read) → chains ≡ chains_of table
chains_are read table o chains value is made = subst (λ (p : Option (List Chain)). IfSome p (λ x. x ≡ chains_of read)) is made ∙ ap chains_of value

few_rules : (o : Option (List Chain)) (chains : List Chain) → o ≡ Some chains → IfSome o (λ x. rule_count x ≤ rule_limit)
    → rule_count chains ≤ rule_limit
few_rules o chains is few = subst (λ (p : Option (List Chain)). IfSome p (λ x. rule_count x ≤ rule_limit)) is few

too_many : (read table : Table) (o : Option (List Chain)) → read ≡ table → o ≡ None → IfNone o (rule_limit < rule_count (chains_of read))
    → rule_limit < rule_count (chains_of table)
too_many read table o value is many =
    let long = subst (λ (p : Option (List Chain)). IfNone p (rule_limit < rule_count (chains_of read))) is many in
    subst (λ (t : Table). rule_limit < rule_count (chains_of t)) value long

pub returns-then-len-gt-CHAIN_LIMIT-clause-refused : goal.returns-then-len-gt-CHAIN_LIMIT-clause-refused
returns-then-len-gt-CHAIN_LIMIT-clause-refused c =
    omega (
      arith,
      c.if-len-gt-CHAIN_LIMIT.true,
      c.len.ensures,
      ap (λ (t : Table). length t.chains.items) c.table-table.ensures.value,
      length-chains_of c.args.table.now,
    )

pub build_accepted-requires-clause-accepted : goal.build_accepted-requires-clause-accepted
build_accepted-requires-clause-accepted c =
    let table = c.args.table.now in
    let made = chains_are c.table-table.result.now table c.in_ok-filled_chains.field-0 c.in-Some.chains c.table-table.ensures.value c.in-Some.is
    c.in_ok-filled_chains.ensures.chains in
    let rules = few_rules c.in_ok-filled_chains.field-0 c.in-Some.chains c.in-Some.is c.in_ok-filled_chains.ensures.few in
    let few : length table.chains.items ≤ 4093 = omega (
      arith,
      c.if-len-gt-CHAIN_LIMIT.false,
      c.len.ensures,
      ap (λ (t : Table). length t.chains.items) c.table-table.ensures.value,
    ) in
    ap refusal_of made ∙ accepted table c.table-table.ensures.loadable few (omega (arith, rules, ap rule_count made))

pub build_accepted-requires-clause-acyclic : goal.build_accepted-requires-clause-acyclic
build_accepted-requires-clause-acyclic c =
    let made = chains_are c.table-table.result.now c.args.table.now c.in_ok-filled_chains.field-0 c.in-Some.chains c.table-table.ensures.value
    c.in-Some.is c.in_ok-filled_chains.ensures.chains in
    subst IsAcyclic (sym made) (acyclic c.args.table.now c.table-table.ensures.loadable)

pub returns-in-None-clause-refused : goal.returns-in-None-clause-refused
returns-in-None-clause-refused c =
    let few : length (chains_of c.args.table.now) ≤ 4096 = omega (
      arith,
      c.if-len-gt-CHAIN_LIMIT.false,
      c.len.ensures,
      ap (λ (t : Table). length t.chains.items) c.table-table.ensures.value,
      length-chains_of c.args.table.now,
    ) in (
      few,
      too_many c.table-table.result.now c.args.table.now c.in_ok-filled_chains.field-0 c.table-table.ensures.value c.in-None.is
          c.in_ok-filled_chains.ensures.many,
    )

pub returns-in_ok-build_accepted-in-Some-clause-same_verdicts : goal.returns-in_ok-build_accepted-in-Some-clause-same_verdicts
returns-in_ok-build_accepted-in-Some-clause-same_verdicts c =
    let table = c.args.table.now in
    let made = chains_are c.table-table.result.now table c.in_ok-filled_chains.field-0 c.in-Some.chains c.table-table.ensures.value
    c.in-Some.is c.in_ok-filled_chains.ensures.chains in
    subst (HaveSameVerdicts table) (sym (c.in_ok-build_accepted-in-Some.ensures ∙ made))
    (same_verdicts table c.table-table.ensures.loadable (λ state p is. let one = c.table-table.ensures.one state p is in (one.0, one.1)))
