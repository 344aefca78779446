use Rattle.std.proofs.Common.{true, refl, ap, ◌≡◌, List, [], ◌∷◌, false, sym, subst}
use Rattle.std.proofs.lemmas.Result.{IfOk-weaker}
use Rattle.ipt_rules.specs.declared.rule.Rule.{Rule}
use Rattle.ipt_rules.specs.Matching.{matches}
use Rattle.ipt_rules.specs.Semantics.{step_of}
use Rattle.rules_set.specs.inner.Effects.{IsComposed, IsEffect, Turns}
use Rattle.rules_set.proofs.EffectLaws.{effect_both, effect_none, effect_still, halves, only_one, turns_counts, turns_past}
use Rattle.rules_set.proofs.effect.+effect_of.Goals as goal

pub returns-then-rules-gt1-clause-effect : goal.returns-then-rules-gt1-clause-effect
returns-then-rules-gt1-clause-effect t c =
    let chains = c.args.traversal.now.rules.now in
    let state = c.args.traversal.now.state in
    let b = c.args.traversal.now.within in
    let rules = c.args.rules.now in
    let one = c.effect_of.new.diagrams in
    let two = c.effect_of-then-rules-gt1.new.diagrams in
    let new = c.composed.new.diagrams in
    let first = c.in_ok-first.first in
    let second = c.in_ok-second.second in
    IfOk-weaker c.composed.result (λ e. IsComposed two new first second e) (λ e. IsEffect new chains state b rules e)
    (λ e composed. subst (λ (rs : List Rule). IsEffect new chains state b rs e) (halves rules _)
    (effect_both two new chains state b _ _ first second e
    (effect_still one two chains state b _ first c.in_ok-second.ensures.keeps c.in_ok-first.ensures.effect) c.in_ok-second.ensures.effect composed))
    c.composed.ensures.effect

pub returns-in_default-header_of-clause-effect : goal.returns-in_default-header_of-clause-effect
returns-in_default-header_of-clause-effect t c =
    let chains = c.args.traversal.now.rules.now in
    let state = c.args.traversal.now.state in
    let r = c.in-Some.rule.now in
    let one : c.args.rules.now ≡ r ∷ [] = only_one c.args.rules.now r c.if-rules-gt1.false (sym c.in-Some.ensures.value) in
    effect_none c.args.diagrams.now chains state c.args.traversal.now.within c.args.rules.now c.none-in_default-header_of.result
    c.none-in_default-header_of.ensures
    (λ p inside. subst (λ (rs : List Rule). Turns (matches p state) chains rs false false false) (sym one)
    (turns_past (matches p state) chains r (c.header_of.ensures.none c.in_default-header_of.is p inside)))

pub returns-in-Count-clause-effect : goal.returns-in-Count-clause-effect
returns-in-Count-clause-effect t c =
    let chains = c.args.traversal.now.rules.now in
    let state = c.args.traversal.now.state in
    let r = c.in-Some.rule.now in
    let one : c.args.rules.now ≡ r ∷ [] = only_one c.args.rules.now r c.if-rules-gt1.false (sym c.in-Some.ensures.value) in
    effect_none c.args.diagrams.now chains state c.args.traversal.now.within c.args.rules.now c.none-in-Count.result c.none-in-Count.ensures
    (λ p inside. subst (λ (rs : List Rule). Turns (matches p state) chains rs false false false) (sym one)
    (turns_counts (matches p state) chains r (matches p state r) refl (ap (step_of true) c.in-Count.is)))
