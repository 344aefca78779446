use Rattle.std.proofs.Common.{◌≡◌, ◌++◌, IsTrue, drop}
use Rattle.std.specs.List.{list_all}
use Rattle.ipt_rules.specs.inner.RuleParts.{is_rule}
use Rattle.nft_chains.specs.Translation.{rules_of_rules}
use Rattle.nft_chains.proofs.rules.push_rules.Given as goal

abbrev pub invariant-loop-rule : goal.invariant-loop-rule
invariant-loop-rule l =
    (l.rules.items ++ rules_of_rules (drop l.rule-index l.from) ≡ l.fn.rules.items ++ rules_of_rules l.from)
    × IsTrue (list_all is_rule l.rules.items)
