use Rattle.std.proofs.Common.{◌≡◌, ap, sym, subst, ◌∙◌, List}
use Rattle.ipt_rules.specs.Chain.{Chain}
use Rattle.rules_space.specs.Rules.{AnyRules, Chains, filter_of}
use Rattle.rules_space.specs.RulesView.{rules_of}
use Rattle.rules_space.specs.Verdicts.{GivesOne}
use Rattle.decide_core.specs.declared.pair_sets.PairDeciders.{PairDeciders}
use Rattle.decide_core.specs.inner.PairSets.{ArePairDeciders}
use Rattle.decide_core.proofs.PairSetLemmas.{pair_deciders}
use Rattle.decide_core.proofs.pair_sets.PairDeciders.of.Goals as goal

pub met_between-requires : goal.met_between-requires
met_between-requires c = λ p goes.
    c.box_between-within.ensures.inside p goes.packet (c.hull-source.ensures.covers p.src goes.src) (c.hull-target.ensures.covers p.dst goes.dst)

pub returns-in-Ok : goal.returns-in-Ok
returns-in-Ok c =
    let chains : List Chain = c.as_chains-chains.result in
    let s : PairDeciders = record { diagrams = c.met_between.new.diagrams; met = c.in-Ok.met; source = c.hull-source.result; target = c.hull-target.result } in
    let e : rules_of c.args.text.now ≡ Chains chains = ap rules_of c.in-Ipt.is ∙ ap Chains (sym c.as_chains-chains.ensures) in
    subst (λ (r : AnyRules). ArePairDeciders r c.args.from.now c.args.to.now s) (sym e)
    (pair_deciders chains c.args.from.now c.args.to.now c.box_between-within.result s c.count-count.ensures.deterministic
    (subst (λ (r : AnyRules). GivesOne (filter_of r)) e c.rules-rules.ensures.gives) c.hull-source.ensures.range c.hull-target.ensures.range
    c.hull-source.ensures.covers c.hull-target.ensures.covers c.box_between-within.ensures.inside c.in-Ok.ensures)
