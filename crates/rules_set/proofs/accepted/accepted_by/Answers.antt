use Rattle.std.proofs.Common.{◌∙◌, ap, sym}
use Rattle.ipt_rules.specs.Semantics.{policy_verdict}
use Rattle.std.specs.Prelude.{◌&&◌, ◌||◌, not}
use Rattle.std.proofs.lemmas.Result.{IfOk-weaker}
use Rattle.packet_set.specs.Nodes.{has}
use Rattle.packet_set.specs.Sets.{IsSet}
use Rattle.rules_set.specs.Accepting.{IsAcceptedBy}
use Rattle.rules_set.proofs.EffectLaws.{accepted_is}
use Rattle.rules_set.proofs.accepted.accepted_by.Goals as goal

pub returns-clause-set : goal.returns-clause-set
returns-clause-set c =
    let chains = c.args.rules.now in
    let old = c.effect_of_forward.new.diagrams in
    let new = c.by_policy.new.diagrams in
    let e = c.in_ok-effect.effect in
    let accepts = c.accepts.result in
    IfOk-weaker c.by_policy.result (λ set. IsSet new set (λ p. has old e.accepted p || (accepts && not (has old e.dropped p))))
    (λ set. IsAcceptedBy new chains c.args.state c.args.within.now set)
    (λ set is. accepted_is old new chains c.args.state c.args.within.now e accepts set c.in_ok-effect.ensures.effect
    (ap policy_verdict (sym c.policy.ensures) ∙ c.accepts.ensures) is)
    c.by_policy.ensures.set
