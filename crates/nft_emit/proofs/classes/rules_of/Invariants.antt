use Rattle.std.proofs.Common.{◌≡◌, ◌++◌, drop, map}
use Rattle.nft_rules.specs.declared.table.Rule.TheVariants.{Match}
use Rattle.nft_emit.proofs.classes.rules_of.Given as goal

abbrev pub invariant-loop-rule : goal.invariant-loop-rule
invariant-loop-rule l = l.made.items ++ map Match (drop l.rule-index l.rules) ≡ map Match l.rules
