use Rattle.std.proofs.Common.{List, ◌++◌}
use Rattle.std.proofs.lemmas.Result.{IfOk-weaker}
use Rattle.ipt_rules.specs.declared.rule.Rule.{Rule}
use Rattle.rules_set.specs.inner.Effects.{IsComposed, IsEffect}
use Rattle.rules_set.proofs.EffectLaws.{effect_both, effect_still}
use Rattle.rules_set.proofs.effect.with_rules.Goals as goal

pub returns-clause-effect : goal.returns-clause-effect
returns-clause-effect c =
    let chains = c.args.traversal.now.rules.now in
    let state = c.args.traversal.now.state in
    let b = c.args.traversal.now.within in
    let old = c.args.diagrams.now in
    let mid = c.effect_of.new.diagrams in
    let new = c.composed.new.diagrams in
    let before = c.args.before in
    let effect = c.in_ok-effect.effect in
    IfOk-weaker c.composed.result (λ e. IsComposed mid new before effect e)
    (λ e. (first : List Rule) → IsEffect old chains state b first before → IsEffect new chains state b (first ++ c.args.rules.now) e)
    (λ e composed first is. effect_both mid new chains state b first c.args.rules.now before effect e
    (effect_still old mid chains state b first before c.in_ok-effect.ensures.keeps is) c.in_ok-effect.ensures.effect composed)
    c.composed.ensures.effect
