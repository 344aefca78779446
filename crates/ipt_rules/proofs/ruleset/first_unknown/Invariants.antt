use Rattle.std.proofs.Common.{◌≡◌, ◌≤◌, length, drop}
use Rattle.ipt_rules.specs.ChainTable.{rule_count}
use Rattle.ipt_rules.specs.inner.Build.{first_unknown}
use Rattle.ipt_rules.proofs.ruleset.first_unknown.Given as goal

abbrev pub invariant-loop-number : goal.invariant-loop-number
invariant-loop-number l = record {
  same : first_unknown (length l.chains) l.number (drop l.number l.chains) ≡ first_unknown (length l.chains) 0 l.chains;
  few : rule_count (drop l.number l.chains) ≤ 1000000;
}
