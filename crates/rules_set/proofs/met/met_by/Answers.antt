use Rattle.std.proofs.Common.{ℕ, ◌<◌, sym, subst}
use Rattle.ipt_rules.specs.inner.Walking.{IsShallow}
use Rattle.ipt_rules.proofs.WalkingLemmas.{all_shallow}
use Rattle.rules_set.proofs.met.met_by.Goals as goal

pub walk-requires-clause-shallow : goal.walk-requires-clause-shallow
walk-requires-clause-shallow c =
    let chains = c.args.rules.now in
    subst (λ (n : ℕ). IsShallow chains n 1) (sym c.count-count.ensures.count)
    (all_shallow chains 1 c.count-count.ensures.ordered (subst (λ (n : ℕ). 1 < n) c.count-count.ensures.count c.count-count.ensures.forward))
