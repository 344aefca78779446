use Rattle.std.proofs.Common.{◌≡◌}
use Rattle.ipt_rules.proofs.SliceLaws.{ThinsWith}
use Rattle.ipt_rules.proofs.slice.thinned.Given as goal

abbrev pub invariant-loop-rule : goal.invariant-loop-rule
invariant-loop-rule l = record {
  policy : l.thinned.policy ≡ l.chain.policy;
  so_far : ThinsWith l.within l.rules l.rule-index l.thinned.rules;
}
