use Rattle.nft_chains.specs.inner.Building.{table_limit}
use Rattle.nft_chains.proofs.FillLaws.{are_rules_at}
use Rattle.nft_chains.proofs.rules.push_rules.Goals as goal

pub push_rule-requires-clause-rule : goal.push_rule-requires-clause-rule
push_rule-requires-clause-rule c =
    are_rules_at table_limit c.args.from.now c.loop-rule.rule-index c.rule-item.result c.loop-rule-test.true c.rule-item.is c.requires.from
