use Rattle.std.proofs.Common.{◌<◌, ◌^◌, List, arith, subst, sym}
use Rattle.ipt_rules.specs.Chain.{Chain}
use Rattle.ipt_rules.specs.ChainTable.{rule_count}
use Rattle.ipt_rules.proofs.RuleLemmas.{length-all_rules}
use Rattle.nft_rules.specs.declared.table.Table.{Table}
use Rattle.nft_chains.specs.Translation.{chains_of}
use Rattle.nft_flows.proofs.span.spans_in.Goals as goal

pub spans_of-requires-clause-rules : goal.spans_of-requires-clause-rules
spans_of-requires-clause-rules c =
    let all : rule_count c.args.chains.now < 2 ^ 32 = omega (arith, c.rules-rules.ensures.count, length-all_rules c.args.chains.now) in
    subst (λ (t : Table). rule_count (chains_of t) < 2 ^ 32) (sym c.table.ensures.value)
    (subst (λ (chains : List Chain). rule_count chains < 2 ^ 32) c.requires all)
