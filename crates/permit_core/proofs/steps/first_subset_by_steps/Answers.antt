use Rattle.std.proofs.Common.{◌≡◌, List, [], ◌∷◌, ◌++◌, sym, ◌∙◌, ap, subst, refl}
use Rattle.std.proofs.lemmas.Bool.{false≢true}
use Rattle.flow_set.specs.declared.flow.Flow.{Flow}
use Rattle.flow_set.specs.Flow.{IsFlow}
use Rattle.flow_set.specs.FlowSet.{SetOfFlows, with_flow}
use Rattle.flow_set.specs.inner.FlowSetView.{IsFlowSet}
use Rattle.flow_set.specs.Conditions.{IsFirst}
use Rattle.flow_set.specs.laws.WalkLaws.{walk_next}
use Rattle.permit_core.specs.inner.Grown.{IsNew}
use Rattle.permit_core.proofs.FirstLaws.{first_of_nothing, first_kept, first_left}
use Rattle.permit_core.proofs.Step.{walked, flow_walked, kept_new}
use Rattle.permit_core.proofs.steps.first_subset_by_steps.Goals as goal

pub loop-f-init : goal.loop-f-init
loop-f-init g c =
    let nothing = ap (λ (s : SetOfFlows). s.flows) c.in_ok-kept.ensures in
    record {
      size = ap (λ (s : SetOfFlows). s.size) c.in_ok-kept.ensures ∙ c.size.ensures.size;
      walk = c.into_iter-f-iterator.ensures.into_iter_gives ∙ c.iter-f-items.ensures.flows;
      first = subst (λ (fs : List Flow). IsFirst (g.C.SteppedCondition.meets_on c.args.condition.now) [] fs) (sym nothing) (first_of_nothing (g.C.SteppedCondition.meets_on c.args.condition.now) c.requires.nothing);
      come = subst (λ (fs : List Flow). g.C.SteppedCondition.has_come_to c.args.condition.now c.args.state.now fs) (sym nothing) c.requires.begin;
    }

pub goes_on-requires-clause-new : goal.goes_on-requires-clause-new
goes_on-requires-clause-new g c =
    let kept = c.loop-f.invariant in
    let so_far : IsFlowSet c.args.all.now.size (c.loop-f.yielded ++ c.in-Some.f ∷ []) =
    walked c.args.all.now.size c.loop-f.yielded c.loop-f.f-iterator c.next.new.self c.args.all.now.flows c.in-Some.f c.size.ensures.set kept.walk c.in-Some.ensures.steps in
    subst (λ n. IsNew n c.loop-f.kept.flows c.in-Some.f) c.requires.size
    (kept_new c.args.all.now.size c.loop-f.yielded c.loop-f.kept.flows c.in-Some.f so_far kept.first.within)

pub insert-requires : goal.insert-requires
insert-requires g c =
    let kept = c.loop-f.invariant in
    let so_far : IsFlowSet c.args.all.now.size (c.loop-f.yielded ++ c.in-Some.f ∷ []) =
    walked c.args.all.now.size c.loop-f.yielded c.loop-f.f-iterator c.next.new.self c.args.all.now.flows c.in-Some.f c.size.ensures.set kept.walk c.in-Some.ensures.steps in
    subst (λ n. IsFlow n c.in-Some.f) (sym kept.size) (flow_walked c.args.all.now.size c.loop-f.yielded c.in-Some.f so_far)

pub loop-f-preserved-then-goes_on : goal.loop-f-preserved-then-goes_on
loop-f-preserved-then-goes_on g c =
    let kept = c.loop-f.invariant in
    let Holds = g.C.SteppedCondition.meets_on c.args.condition.now in
    let so_far : IsFlowSet c.args.all.now.size (c.loop-f.yielded ++ c.in-Some.f ∷ []) =
    walked c.args.all.now.size c.loop-f.yielded c.loop-f.f-iterator c.next.new.self c.args.all.now.flows c.in-Some.f c.size.ensures.set kept.walk c.in-Some.ensures.steps in
    let put : c.insert.new.self.flows ≡ with_flow c.loop-f.kept.flows c.in-Some.f = ap (λ (s : SetOfFlows). s.flows) c.insert.ensures.set in
    record {
      size = ap (λ (s : SetOfFlows). s.size) c.insert.ensures.set ∙ kept.size;
      walk = walk_next c.loop-f.yielded c.loop-f.f-iterator c.next.new.self c.args.all.now.flows c.in-Some.f kept.walk c.in-Some.ensures.steps;
      first = subst (λ (fs : List Flow). IsFirst Holds (c.loop-f.yielded ++ c.in-Some.f ∷ []) fs) (sym put)
          (first_kept c.args.all.now.size Holds c.loop-f.yielded c.loop-f.kept.flows c.in-Some.f so_far c.requires.downward kept.first (c.if-goes_on.ensures.answer.0 refl));
      come = subst (λ (fs : List Flow). g.C.SteppedCondition.has_come_to c.args.condition.now c.goes_on.new.state fs) (sym put) c.if-goes_on.ensures.come;
    }

pub loop-f-preserved : goal.loop-f-preserved
loop-f-preserved g c =
    let kept = c.loop-f.invariant in
    let Holds = g.C.SteppedCondition.meets_on c.args.condition.now in
    let so_far : IsFlowSet c.args.all.now.size (c.loop-f.yielded ++ c.in-Some.f ∷ []) =
    walked c.args.all.now.size c.loop-f.yielded c.loop-f.f-iterator c.next.new.self c.args.all.now.flows c.in-Some.f c.size.ensures.set kept.walk c.in-Some.ensures.steps in
    record {
      size = kept.size;
      walk = walk_next c.loop-f.yielded c.loop-f.f-iterator c.next.new.self c.args.all.now.flows c.in-Some.f kept.walk c.in-Some.ensures.steps;
      first = first_left c.args.all.now.size Holds c.loop-f.yielded c.loop-f.kept.flows c.in-Some.f so_far c.requires.downward kept.first
          (λ holds. false≢true (c.if-goes_on.ensures.answer.1 holds));
      come = c.if-goes_on.ensures.come;
    }
