use Rattle.std.proofs.Common.{◌≡◌, ◌∷◌, ◌++◌, ℕ, ap, sym, subst, ◌∙◌}
use Rattle.flow_set.specs.Flow.{IsFlow}
use Rattle.flow_set.specs.FlowSet.{IsOrdered}
use Rattle.flow_set.specs.laws.WalkLaws.{walk_end, walk_member, walk_next}
use Rattle.nft_local.specs.inner.Part.{flows_at}
use Rattle.nft_local.proofs.PartLaws.{part_grows, part_size}
use Rattle.nft_local.proofs.part.flows_at.Goals as goal

pub insert_if-requires : goal.insert_if-requires
insert_if-requires c =
    let kept = c.loop-flow.invariant in
    subst (λ (n : ℕ). IsFlow n c.in-Some.flow) (sym kept.size)
    (c.iter-flow-items.ensures.set.flows c.in-Some.flow
    (walk_member c.loop-flow.yielded c.loop-flow.flow-iterator c.next.new.self c.args.flows.now.flows c.in-Some.flow kept.walk c.in-Some.ensures.steps))

pub loop-flow-preserved : goal.loop-flow-preserved
loop-flow-preserved c =
    let kept = c.loop-flow.invariant in
    let whole : c.loop-flow.yielded ++ c.in-Some.flow ∷ c.next.new.self ≡ c.args.flows.now.flows =
    ap (λ ys. c.loop-flow.yielded ++ ys) (sym c.in-Some.ensures.steps) ∙ kept.walk in
    record {
      size = part_size c.loop-flow.kept c.insert_if.new.set c.in-Some.flow c.is_end.result c.insert_if.ensures ∙ kept.size;
      flows =
          part_grows c.args.host c.loop-flow.kept c.insert_if.new.set c.loop-flow.yielded c.next.new.self c.in-Some.flow c.is_end.result
          (subst IsOrdered (sym whole) c.iter-flow-items.ensures.set.ordered) kept.flows c.is_end.ensures c.insert_if.ensures;
      walk =
          walk_next c.loop-flow.yielded c.loop-flow.flow-iterator c.next.new.self c.args.flows.now.flows c.in-Some.flow kept.walk c.in-Some.ensures.steps;
    }

pub returns-clause-flows : goal.returns-clause-flows
returns-clause-flows c =
    c.loop-flow.invariant.flows
    ∙ ap (flows_at c.args.host) (walk_end c.loop-flow.yielded c.loop-flow.flow-iterator c.args.flows.now.flows c.loop-flow.invariant.walk c.in-None.ensures.steps.0)
