use Rattle.std.proofs.Common.{ap, arith}
use Rattle.ipt_rules.specs.ChainTable.{rule_count}
use Rattle.nft_chains.proofs.FillLaws.{rule_count_with_rules}
use Rattle.nft_chains.proofs.chains.fill_counted.Goals as goal

pub returns : goal.returns
returns c =
    let old = c.args.filled.now.chains in
    let added = c.in_ok-fill.ensures.added in
    let count = c.requires.counted.counted in
    let few = c.requires.counted.few in (
      added,
      record {
        counted = omega (arith, count, ap rule_count added, rule_count_with_rules old c.args.chain c.args.rules.now c.requires.there);
        few = omega (arith, few, c.if-rules-filled.false);
      },
    )
