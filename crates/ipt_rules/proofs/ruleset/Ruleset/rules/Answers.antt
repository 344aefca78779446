use Rattle.std.proofs.Common.{arith}
use Rattle.ipt_rules.proofs.RuleLemmas.{length-all_rules}
use Rattle.ipt_rules.proofs.WalkLemmas.{each_gives_one}
use Rattle.ipt_rules.proofs.ruleset.Ruleset.rules.Goals as goal

pub returns-clause-count : goal.returns-clause-count
returns-clause-count c =
    rw (← c.self.view_is) (omega (arith, c.self.invariant.list.counted, length-all_rules c.self.inside.chains.items))

pub returns-clause-deterministic : goal.returns-clause-deterministic
returns-clause-deterministic c =
    rw (← c.self.view_is) (each_gives_one c.self.inside.chains.items c.self.invariant.topological_order)
