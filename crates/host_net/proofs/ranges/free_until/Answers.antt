use Rattle.std.proofs.Common.{length, refl, arith}
use Rattle.std.proofs.lemmas.Option.{slice_get_read}
use Rattle.host_net.proofs.UntilLemmas.{behind_at, next_behind}
use Rattle.host_net.proofs.ranges.free_until.Goals as goal

pub returns-in-Some-clause-behind : goal.returns-in-Some-clause-behind
returns-in-Some-clause-behind c = λ a low.
    let found = c.in-Some.ensures.lookup in
    let there = slice_get_read c.args.ranges.now (length c.args.ranges.now) c.args.place c.in-Some.next.now refl found.3.0 found.1 in
    let sub = c.saturating_sub.ensures in
    let least = c.min.ensures in
    let above = next_behind c.args.ranges.now c.args.place c.args.addr c.in-Some.next.now there c.requires.behind in
    behind_at c.args.ranges.now c.args.place a c.in-Some.next.now c.requires.ordered there (omega (arith, low, sub, least, above))
