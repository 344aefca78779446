use Rattle.std.proofs.Common.{ℕ, subst}
use Rattle.host_net.specs.inner.Cover.{IsFirstFrom}
use Rattle.ofp_rules.specs.inner.Next.{all_ends, source_of}
use Rattle.ofp_rules.proofs.NextLemmas.{next_is}
use Rattle.ofp_rules.proofs.next.next_entry.Goals as goal

pub returns : goal.returns
returns c = λ entries is.
    let first = c.first.ensures (all_ends entries) is in
    let by_source = subst (λ (a : ℕ). IsFirstFrom (all_ends entries) c.args.from a c.destination_of.result c.first.result) c.source_of.ensures first in
    next_is entries c.args.frame.now c.args.from c.first.result
    (subst (λ (a : ℕ). IsFirstFrom (all_ends entries) c.args.from (source_of c.args.frame.now) a c.first.result) c.destination_of.ensures by_source)
