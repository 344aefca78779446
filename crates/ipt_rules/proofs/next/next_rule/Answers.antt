use Rattle.ipt_rules.specs.inner.Next.{all_ends}
use Rattle.ipt_rules.proofs.NextLemmas.{next_is, next_small}
use Rattle.ipt_rules.proofs.next.next_rule.Goals as goal

pub returns-in-Some-clause-next : goal.returns-in-Some-clause-next
returns-in-Some-clause-next c = λ state.
    next_is c.args.rules.now c.args.packet.now state c.args.from c.first.result (c.first.ensures (all_ends c.args.rules.now) (rw c.in-Some.is at c.requires.index))

pub returns-in-Some-clause-small : goal.returns-in-Some-clause-small
returns-in-Some-clause-small c = next_small c.args.rules.now c.args.from _ _ c.first.result c.requires.few (c.first.ensures (all_ends c.args.rules.now) (rw c.in-Some.is at c.requires.index))
