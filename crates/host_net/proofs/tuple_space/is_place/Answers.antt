use Rattle.std.proofs.Common.{◌≡◌, ◌≤◌, ◌-◌, inl, inr, slice_index_or, arith}
use Rattle.std.proofs.lemmas.Bool.Decides.{nat_tests}
use Rattle.host_net.specs.inner.CoverView.{rank}
use Rattle.host_net.proofs.CoverLemmas.{no_key, point_at}
use Rattle.host_net.proofs.tuple_space.is_place.Goals as goal

pub returns-then-at-eq0-clause-point : goal.returns-then-at-eq0-clause-point
returns-then-at-eq0-clause-point c = λ on.
    let above : c.args.least ≤ rank (slice_index_or c.args.keys.now c.args.at no_key) = omega (arith, c.rank.ensures, c.if-rank-least.false) in
    point_at c.args.keys.now c.args.least c.args.at (omega (arith, c.if-at-keys.false)) above (inl (omega (arith, c.if-at-eq0.true)))

pub returns-else-at-eq0-clause-point : goal.returns-else-at-eq0-clause-point
returns-else-at-eq0-clause-point c = λ on.
    let above : c.args.least ≤ rank (slice_index_or c.args.keys.now c.args.at no_key) = omega (arith, c.rank.ensures, c.if-rank-least.false) in
    let same : c.rank-else-at-eq0.result ≡ rank (slice_index_or c.args.keys.now (c.args.at - 1) no_key) = c.rank-else-at-eq0.ensures in
    point_at c.args.keys.now c.args.least c.args.at (omega (arith, c.if-at-keys.false)) above (inr (grind (arith, nat_tests)))
