use Rattle.std.proofs.Common.{subst}
use Rattle.ipt_rules.specs.inner.OneOutcome.{AreDeterministic}
use Rattle.ipt_rules.proofs.WalkLemmas.{each_gives_one}
use Rattle.ipt_rules.proofs.slice.Slice.rules.Goals as goal

pub returns : goal.returns
returns c = record { deterministic = subst AreDeterministic c.self.view_is (each_gives_one c.self.inside.chains.items c.self.invariant.topological_order) }
