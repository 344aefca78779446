use Rattle.std.proofs.Common.{◌∙◌, ap, arith, subst, sym}
use Rattle.ipt_rules.specs.inner.Build.{refusal_of}
use Rattle.ipt_rules.specs.ChainTable.{rule_count}
use Rattle.ipt_rules.specs.Loops.{IsAcyclic}
use Rattle.ipt_rules.specs.inner.Ranks.{HasTopologicalOrder}
use Rattle.ipt_rules.specs.inner.Starts.{starts_from}
use Rattle.ipt_rules.proofs.BuildLemmas.{built, few_rules_of}
use Rattle.ipt_rules.proofs.WalkLemmas.{each_gives_one}
use Rattle.ipt_rules.proofs.ruleset.Ruleset.new.Goals as goal

pub starts_of-requires : goal.starts_of-requires
starts_of-requires c =
    omega (arith, few_rules_of c.args.chains c.requires.accepted, ap rule_count (c.deref.ensures.value ∙ c.chains.view_is))

pub invariant_of-result : goal.invariant_of-result
invariant_of-result c =
    built c.chains.inside.chains.items c.chains.inside.rules c.in_ok-starts.starts.items c.chains.invariant
    (ap refusal_of c.chains.view_is ∙ c.requires.accepted) (c.in_ok-starts.ensures ∙ ap (starts_from 0) c.deref.ensures.value)
    (subst HasTopologicalOrder (sym c.chains.view_is) c.requires.ranked.0)

pub returns-clause-deterministic : goal.returns-clause-deterministic
returns-clause-deterministic c =
    each_gives_one c.chains.inside.chains.items (subst HasTopologicalOrder (sym c.chains.view_is) c.requires.ranked.0)

pub returns-clause-acyclic : goal.returns-clause-acyclic
returns-clause-acyclic c = subst IsAcyclic (sym c.chains.view_is) c.requires.ranked.1
