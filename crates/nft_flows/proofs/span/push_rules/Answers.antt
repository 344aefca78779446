use Rattle.std.proofs.Common.{subst, sym}
use Rattle.nft_flows.specs.inner.ChainRules.{HasChainRules}
use Rattle.nft_flows.proofs.SpanLaws.{chain_rules_at}
use Rattle.nft_flows.proofs.span.push_rules.Goals as goal

pub push_rule-requires-clause-rule : goal.push_rule-requires-clause-rule
push_rule-requires-clause-rule c =
    subst HasChainRules (sym c.index-rules-index.is)
    (chain_rules_at c.args.rules.now c.loop-index.index c.index-rules-index.result c.loop-index-test.true c.requires.rules)
