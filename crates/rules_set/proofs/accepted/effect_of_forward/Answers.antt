use Rattle.std.proofs.Common.{◌∙◌, ℕ, ◌<◌, sym, subst}
use Rattle.ipt_rules.specs.inner.Walking.{IsShallow}
use Rattle.ipt_rules.proofs.WalkingLemmas.{all_shallow}
use Rattle.rules_set.proofs.KnownLaws.{known_none}
use Rattle.rules_set.proofs.accepted.effect_of_forward.Goals as goal

pub learn-requires-clause-shallow : goal.learn-requires-clause-shallow
learn-requires-clause-shallow c =
    let chains = c.args.traversal.now.rules.now in
    subst (λ (n : ℕ). IsShallow chains n 1) (sym c.count-count.ensures.count)
    (all_shallow chains 1 c.count-count.ensures.ordered (subst (λ (n : ℕ). 1 < n) c.count-count.ensures.count c.count-count.ensures.forward))

pub learn-requires-clause-known : goal.learn-requires-clause-known
learn-requires-clause-known c =
    known_none _ _ _ _ c.deref_mut.result.now _ (c.deref_mut.ensures.value ∙ c.in_ok-known.ensures)
