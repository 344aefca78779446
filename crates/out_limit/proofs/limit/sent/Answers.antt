use Rattle.std.proofs.Common.{◌≡◌, ◌≤◌, ◌*◌, List, length, inl, ◌∙◌, ap, arith}
use Rattle.std.proofs.Math.Nat.{mul-le-mul_right}
use Rattle.flow_set.specs.declared.flow.Flow.{Flow}
use Rattle.flow_set.specs.laws.WalkLaws.{length-IsFlowSet}
use Rattle.out_limit.proofs.limit.sent.Goals as goal

pub count-requires-clause-fits : goal.count-requires-clause-fits
count-requires-clause-fits c =
    let n = c.args.e.now.size in
    let h : length c.args.e.now.flows ≤ n * n = length-IsFlowSet n c.args.e.now.flows c.iter.ensures.set in
    let same : length c.filter.result.iter ≡ length c.args.e.now.flows =
    ap (λ (fs : List Flow). length fs) (c.filter.ensures.source ∙ c.iter.ensures.flows) in
    inl (omega (arith, h, same, c.iter.ensures.set.small, mul-le-mul_right {m = n} {n = 256} n c.iter.ensures.set.small))
