use Rattle.std.proofs.Common.{◌∙◌, List, subst, sym}
use Rattle.std.specs.Prelude.{IsFalse}
use Rattle.host_net.specs.Services.{RestrictedFlow}
use Rattle.flow_set.specs.declared.flow.Flow.{Flow}
use Rattle.flow_set.specs.FlowSet.{IsOrdered}
use Rattle.flow_set.specs.laws.WalkLaws.{walk_next, walk_end, walk_member}
use Rattle.emit_core.specs.PortRanges.{HasNoRange, IsFirstRange, has_range}
use Rattle.emit_core.proofs.SearchSteps.{HoldsOfEach, holds_of_none, holds_of_more, holds_before}
use Rattle.emit_core.proofs.ranges.first_range.Goals as goal

abbrev has_none : List RestrictedFlow → Flow → Type 0
has_none services g = IsFalse (has_range services g)

pub loop-flow-init : goal.loop-flow-init
loop-flow-init c = record {
  walk = c.into_iter-flow-iterator.ensures.into_iter_gives ∙ c.iter-flow-items.ensures.flows ∙ c.permitted.ensures.flows;
  none = holds_of_none (has_none c.services-services.result.now);
}

pub loop-flow-preserved : goal.loop-flow-preserved
loop-flow-preserved c = record {
  walk = walk_next c.loop-flow.yielded c.loop-flow.flow-iterator c.next.new.self c.args.policy.now.permitted c.in-Some.flow c.loop-flow.invariant.walk c.in-Some.ensures.steps;
  none = holds_of_more (has_none c.services-services.result.now) c.loop-flow.yielded c.in-Some.flow c.loop-flow.invariant.none (sym c.has_range.ensures ∙ c.if-has_range.false);
}

pub returns-then-has_range : goal.returns-then-has_range
returns-then-has_range c =
    let services = c.services-services.result.now in
    let permitted = c.args.policy.now.permitted in
    let ordered = subst IsOrdered c.permitted.ensures.flows c.iter-flow-items.ensures.set.ordered in
    subst (λ (ss : List RestrictedFlow). IsFirstRange ss permitted c.in-Some.flow) c.services-services.ensures.value (record {
      permitted = walk_member c.loop-flow.yielded c.loop-flow.flow-iterator c.next.new.self permitted c.in-Some.flow c.loop-flow.invariant.walk c.in-Some.ensures.steps;
      range = sym c.has_range.ensures ∙ c.if-has_range.true;
      first = holds_before (has_none services) c.loop-flow.yielded c.loop-flow.flow-iterator c.next.new.self permitted c.in-Some.flow ordered c.loop-flow.invariant.walk c.in-Some.ensures.steps c.loop-flow.invariant.none;
    })

pub returns : goal.returns
returns c =
    subst (λ (ss : List RestrictedFlow). HasNoRange ss c.args.policy.now.permitted) c.services-services.ensures.value
    (subst (HoldsOfEach (has_none c.services-services.result.now))
    (walk_end c.loop-flow.yielded c.loop-flow.flow-iterator c.args.policy.now.permitted c.loop-flow.invariant.walk c.in-None.ensures.steps.0) c.loop-flow.invariant.none)
