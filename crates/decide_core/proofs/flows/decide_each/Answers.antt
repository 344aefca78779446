use Rattle.std.proofs.Common.{refl, ap, map, ◌∙◌}
use Rattle.std.proofs.lemmas.List.{take_all}
use Rattle.std.proofs.lemmas.List.Elements.{All-nil, All-push}
use Rattle.rules_space.specs.RulesView.{rules_of}
use Rattle.decide_core.specs.declared.flows.FlowRange.{FlowRange}
use Rattle.decide_core.specs.Deciders.{AreDeciders}
use Rattle.decide_core.specs.ServiceRanges.{HasServiceBetween}
use Rattle.decide_core.proofs.FlowLemmas.{mapped_more}
use Rattle.decide_core.proofs.flows.decide_each.Goals as goal

pub loop-range-init : goal.loop-range-init
loop-range-init c =
    let Known = λ (r : FlowRange). AreDeciders (rules_of c.args.text.now) (HasServiceBetween c.args.from.now c.args.to.now r.range.low r.range.high) r.deciders in
    record {
      ranges = ap (map (λ (r : FlowRange). r.range)) c.new-list.ensures.items;
      deciders = rw c.new-list.ensures.items (All-nil Known);
    }

pub decide_range-requires-clause-services : goal.decide_range-requires-clause-services
decide_range-requires-clause-services c = c.requires.services c.loop-range.range-index _ c.loop-range-test.true

pub loop-range-preserved : goal.loop-range-preserved
loop-range-preserved c =
    let Known = λ (r : FlowRange). AreDeciders (rules_of c.args.text.now) (HasServiceBetween c.args.from.now c.args.to.now r.range.low r.range.high) r.deciders in
    record {
      ranges =
          mapped_more (λ (r : FlowRange). r.range) c.args.ranges.now c.loop-range.range-index _ c.loop-range.list.items c.push.new.self.items _
          c.loop-range-test.true refl c.in_ok-push.ensures.items c.loop-range.invariant.ranges;
      deciders =
          rw c.in_ok-push.ensures.items (All-push Known c.loop-range.list.items _ c.loop-range.invariant.deciders c.in_ok-deciders.ensures);
    }

pub returns-clause-ranges : goal.returns-clause-ranges
returns-clause-ranges c = c.loop-range.invariant.ranges ∙ take_all c.loop-range.range-index c.args.ranges.now c.loop-range-test.false
