use Rattle.std.proofs.Common.{◌≡◌, true, nat_le}
use Rattle.host_net.proofs.RangesLemmas.{has_addresses, put_held, put_in_order}
use Rattle.host_net.proofs.ranges.put.Goals as goal

pub returns-clause-ordered : goal.returns-clause-ordered
returns-clause-ordered c =
    let some : nat_le c.args.range.first c.args.range.last ≡ true = has_addresses c.args.range c.requires.some in
    rw c.in_ok-insert.ensures.items
    (put_in_order c.args.range c.args.ranges.now.items c.begun-place.result some c.requires.ordered c.requires.free
    (rw c.deref.ensures.value at c.begun-place.ensures.before)
    (rw c.deref.ensures.value at c.begun-place.ensures.behind))

pub returns-clause-held : goal.returns-clause-held
returns-clause-held c = λ a.
    rw c.in_ok-insert.ensures.items (put_held c.args.range c.args.ranges.now.items c.begun-place.result a c.requires.free)
