use Rattle.std.proofs.Common.{◌<◌, ◌≤◌, arith, length, subst, sym}
use Rattle.nft_rules.specs.declared.table.Element.{Element}
use Rattle.nft_flows.proofs.SpanLaws.{range_there}
use Rattle.nft_flows.proofs.span.push_map.Goals as goal

pub prefix_count-requires-clause-some : goal.prefix_count-requires-clause-some
prefix_count-requires-clause-some c =
    let es = c.args.map.now.elements.items in
    let low : c.loop-index.index < length es = omega (arith, c.loop-index-test.true, c.len-index-end.ensures) in
    subst (λ (e : Element). e.range.first ≤ e.range.last) (sym c.index.ensures) (range_there es c.loop-index.index c.index.result.now low c.requires.elements)
