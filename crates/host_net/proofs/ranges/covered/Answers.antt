use Rattle.host_net.proofs.RangesLemmas.{first_to_last, holds_covers}
use Rattle.host_net.proofs.ranges.covered.Goals as goal

pub returns-clause-some : goal.returns-clause-some
returns-clause-some c = rw (c.first.ensures, c.last.ensures) (first_to_last c.args.prefix.now)

pub returns-clause-held : goal.returns-clause-held
returns-clause-held c = λ a.
    holds_covers c.args.prefix.now (record { first = c.first.result; last = c.last.result; host = c.args.host }) a c.first.ensures
    c.last.ensures
