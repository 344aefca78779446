use Rattle.std.proofs.Common.{drop}
use Rattle.std.specs.List.{AllByRecursion}
use Rattle.nft_read.specs.Reading.{RuleFits}
use Rattle.nft_read.proofs.ranges.rule_ranges.Given as goal

abbrev pub invariant-loop-rule : goal.invariant-loop-rule
invariant-loop-rule l = AllByRecursion RuleFits (drop l.rule-index l.rules) → AllByRecursion RuleFits l.rules
