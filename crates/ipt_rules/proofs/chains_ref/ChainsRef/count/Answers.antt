use Rattle.std.proofs.Common.{subst}
use Rattle.ipt_rules.specs.inner.OneOutcome.{AreDeterministic}
use Rattle.ipt_rules.proofs.WalkLemmas.{each_gives_one}
use Rattle.ipt_rules.proofs.chains_ref.ChainsRef.count.Goals as goal

pub returns-clause-deterministic : goal.returns-clause-deterministic
returns-clause-deterministic c = subst AreDeterministic c.self.view_is (each_gives_one c.self.inside.chains.now c.self.invariant.topological_order)
