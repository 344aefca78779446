use Rattle.std.proofs.Common.{◌∙◌, List, ap, refl}
use Rattle.ipt_rules.specs.declared.marks.Place.{Place}
use Rattle.nft_flows.specs.inner.Selected.{IsPlacedRange, has_one, selected}
use Rattle.nft_flows.proofs.SpanLaws.{zip_more}
use Rattle.nft_flows.proofs.flows.place_ranges.Goals as goal

pub loop-range-preserved : goal.loop-range-preserved
loop-range-preserved c =
    zip_more (IsPlacedRange c.args.spans.now) c.args.ranges.now c.loop-range.range-index c.range-item.result c.loop-range.placed.items
    c.push.new.self.items _ c.loop-range-test.true c.range-item.is c.in_ok-push.ensures.items c.loop-range.invariant
    (record {
      range = refl;
      deciders = c.in_ok-deciders.ensures ∙ ap (λ (rules : List Place). selected (has_one rules) c.args.spans.now) c.deref.ensures.value;
    })
