use Rattle.std.proofs.Common.{◌≡◌, ◌+◌, ◌++◌, drop}
use Rattle.ipt_rules.specs.ChainTable.{rule_count}
use Rattle.ipt_rules.specs.inner.Starts.{starts_from}
use Rattle.ipt_rules.proofs.starts.starts_of.Given as goal

abbrev pub invariant-loop-chain : goal.invariant-loop-chain
invariant-loop-chain l = record {
  same : l.starts.items ++ starts_from l.rules (drop l.chain-index l.chains) ≡ starts_from 0 l.chains;
  counted : l.rules + rule_count (drop l.chain-index l.chains) ≡ rule_count l.chains;
}
