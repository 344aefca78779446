use Rattle.std.proofs.Common.{◌≡◌, ◌++◌, drop}
use Rattle.ipt_rules.specs.inner.Next.{all_ends}
use Rattle.ipt_rules.proofs.next.all_ends.Given as goal

abbrev pub invariant-loop-rule : goal.invariant-loop-rule
invariant-loop-rule l = l.all.items ++ all_ends (drop l.rule-index l.rules) ≡ all_ends l.rules
