use Rattle.std.proofs.Common.{refl, sym, ◌∙◌, ap, subst}
use Rattle.flow_set.specs.Flow.{IsFlow}
use Rattle.flow_set.specs.FlowSet.{SetOfFlows}
use Rattle.flow_set.specs.inner.FlowSetView.{without_flow}
use Rattle.flow_set.specs.laws.WalkLaws.{walk_next, walk_member}
use Rattle.flow_set.specs.laws.FlowLaws.{without_nothing, without-push}
use Rattle.permit_core.proofs.offence.take_out.Goals as goal

pub loop-f-init : goal.loop-f-init
loop-f-init c = record {
  walk = c.into_iter-f-iterator.ensures.into_iter_gives ∙ c.iter-f-items.ensures.flows;
  size = refl;
  flows = sym (without_nothing c.args.set.now.flows);
}

pub remove-requires : goal.remove-requires
remove-requires c =
    let f = c.in-Some.f in
    let there =
    walk_member c.loop-f.yielded c.loop-f.f-iterator c.next.new.self c.args.others.now.flows f c.loop-f.invariant.walk c.in-Some.ensures.steps in
    subst (λ n. IsFlow n f) (c.requires ∙ sym c.loop-f.invariant.size) (c.iter-f-items.ensures.set.flows f there)

pub loop-f-preserved : goal.loop-f-preserved
loop-f-preserved c =
    let f = c.in-Some.f in
    record {
      walk = walk_next c.loop-f.yielded c.loop-f.f-iterator c.next.new.self c.args.others.now.flows f c.loop-f.invariant.walk c.in-Some.ensures.steps;
      size = ap (λ (s : SetOfFlows). s.size) c.remove.ensures.set ∙ c.loop-f.invariant.size;
      flows = ap (λ (s : SetOfFlows). s.flows) c.remove.ensures.set ∙ ap (λ zs. without_flow zs f) c.loop-f.invariant.flows ∙ sym (without-push c.args.set.now.flows c.loop-f.yielded f);
    }
