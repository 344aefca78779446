use Rattle.std.proofs.Common.{List, refl, subst}
use Rattle.std.specs.List.{AllZip}
use Rattle.decide_core.specs.declared.flows.FlowRange.{FlowRange}
use Rattle.nft_flows.specs.inner.Selected.{IsPlacedPair, IsPlacedRange}
use Rattle.nft_flows.proofs.SpanLaws.{zip_more}
use Rattle.nft_flows.proofs.flows.place_pairs.Goals as goal

pub loop-pair-preserved : goal.loop-pair-preserved
loop-pair-preserved c =
    zip_more (IsPlacedPair c.args.spans.now) c.args.flows.now c.loop-pair.pair-index c.pair-item.result c.loop-pair.placed.items
    c.push.new.self.items _ c.loop-pair-test.true c.pair-item.is c.in_ok-push.ensures.items c.loop-pair.invariant
    (record {
      source = refl;
      destination = refl;
      ranges =
          subst (λ (ranges : List FlowRange). AllZip (IsPlacedRange c.args.spans.now) ranges c.in_ok-ranges.ranges.items) c.deref.ensures.value
          c.in_ok-ranges.ensures;
    })
