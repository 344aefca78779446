use Rattle.std.proofs.Common.{◌≡◌, List, [], ◌∷◌, ◌++◌, sym, ◌∙◌, ap, subst}
use Rattle.std.proofs.lemmas.Bool.{both_ways}
use Rattle.flow_set.specs.declared.flow.Flow.{Flow}
use Rattle.flow_set.specs.Flow.{IsFlow}
use Rattle.flow_set.specs.FlowSet.{SetOfFlows, with_flow}
use Rattle.flow_set.specs.inner.FlowSetView.{IsFlowSet}
use Rattle.flow_set.specs.Conditions.{IsFirst}
use Rattle.flow_set.specs.laws.WalkLaws.{walk_next}
use Rattle.permit_core.proofs.FirstLaws.{first_of_nothing, first_kept, first_left}
use Rattle.permit_core.proofs.Step.{walked, flow_walked, kept_grown, kept_again}
use Rattle.permit_core.proofs.pass.first_subset.Goals as goal

pub loop-f-init : goal.loop-f-init
loop-f-init g c = record {
  size = ap (λ (s : SetOfFlows). s.size) c.in_ok-kept.ensures ∙ c.size.ensures.size;
  walk = c.into_iter-f-iterator.ensures.into_iter_gives ∙ c.iter-f-items.ensures.flows;
  first = subst (λ (fs : List Flow). IsFirst (g.C.Condition.meets_on c.args.condition.now) [] fs) (sym (ap (λ (s : SetOfFlows). s.flows) c.in_ok-kept.ensures)) (first_of_nothing (g.C.Condition.meets_on c.args.condition.now) c.requires.nothing);
}

pub insert-requires : goal.insert-requires
insert-requires g c =
    let kept = c.loop-f.invariant in
    let so_far : IsFlowSet c.args.all.now.size (c.loop-f.yielded ++ c.in-Some.f ∷ []) =
    walked c.args.all.now.size c.loop-f.yielded c.loop-f.f-iterator c.next.new.self c.args.all.now.flows c.in-Some.f c.size.ensures.set kept.walk c.in-Some.ensures.steps in
    subst (λ n. IsFlow n c.in-Some.f) (sym kept.size) (flow_walked c.args.all.now.size c.loop-f.yielded c.in-Some.f so_far)

pub meets-requires-clause-grown : goal.meets-requires-clause-grown
meets-requires-clause-grown g c =
    let kept = c.loop-f.invariant in
    let so_far : IsFlowSet c.args.all.now.size (c.loop-f.yielded ++ c.in-Some.f ∷ []) =
    walked c.args.all.now.size c.loop-f.yielded c.loop-f.f-iterator c.next.new.self c.args.all.now.flows c.in-Some.f c.size.ensures.set kept.walk c.in-Some.ensures.steps in
    kept_grown c.args.all.now.size (g.C.Condition.size_of c.args.condition.now)
    (g.C.Condition.meets_on c.args.condition.now) c.loop-f.yielded c.loop-f.kept.flows c.insert.new.self.flows c.in-Some.f
    c.requires.size so_far kept.first (ap (λ (s : SetOfFlows). s.flows) c.insert.ensures.set)

pub remove-requires : goal.remove-requires
remove-requires g c =
    let kept = c.loop-f.invariant in
    let so_far : IsFlowSet c.args.all.now.size (c.loop-f.yielded ++ c.in-Some.f ∷ []) =
    walked c.args.all.now.size c.loop-f.yielded c.loop-f.f-iterator c.next.new.self c.args.all.now.flows c.in-Some.f c.size.ensures.set kept.walk c.in-Some.ensures.steps in
    subst (λ n. IsFlow n c.in-Some.f) (sym (ap (λ (s : SetOfFlows). s.size) c.insert.ensures.set ∙ kept.size))
    (flow_walked c.args.all.now.size c.loop-f.yielded c.in-Some.f so_far)

pub loop-f-preserved-then-not-branch : goal.loop-f-preserved-then-not-branch
loop-f-preserved-then-not-branch g c =
    let kept = c.loop-f.invariant in
    let Holds = g.C.Condition.meets_on c.args.condition.now in
    let so_far : IsFlowSet c.args.all.now.size (c.loop-f.yielded ++ c.in-Some.f ∷ []) =
    walked c.args.all.now.size c.loop-f.yielded c.loop-f.f-iterator c.next.new.self c.args.all.now.flows c.in-Some.f c.size.ensures.set kept.walk c.in-Some.ensures.steps in
    let put : c.insert.new.self.flows ≡ with_flow c.loop-f.kept.flows c.in-Some.f = ap (λ (s : SetOfFlows). s.flows) c.insert.ensures.set in
    let again : c.remove.new.self.flows ≡ c.loop-f.kept.flows =
    kept_again c.args.all.now.size c.loop-f.yielded c.loop-f.kept.flows c.insert.new.self.flows c.remove.new.self.flows c.in-Some.f so_far kept.first.within put
    (ap (λ (s : SetOfFlows). s.flows) c.remove.ensures.set) in
    record {
      size = ap (λ (s : SetOfFlows). s.size) c.remove.ensures.set ∙ ap (λ (s : SetOfFlows). s.size) c.insert.ensures.set ∙ kept.size;
      walk = walk_next c.loop-f.yielded c.loop-f.f-iterator c.next.new.self c.args.all.now.flows c.in-Some.f kept.walk c.in-Some.ensures.steps;
      first =
          subst (λ (fs : List Flow). IsFirst (g.C.Condition.meets_on c.args.condition.now) (c.loop-f.yielded ++ c.in-Some.f ∷ []) fs)
          (sym again)
          (first_left c.args.all.now.size Holds c.loop-f.yielded c.loop-f.kept.flows c.in-Some.f so_far c.requires.downward kept.first
          (λ holds. both_ways c.in_ok-meets.field-0 c.if-not-branch.true (c.in_ok-meets.ensures.1 (subst Holds (sym put) holds))));
    }

pub loop-f-preserved : goal.loop-f-preserved
loop-f-preserved g c =
    let kept = c.loop-f.invariant in
    let Holds = g.C.Condition.meets_on c.args.condition.now in
    let so_far : IsFlowSet c.args.all.now.size (c.loop-f.yielded ++ c.in-Some.f ∷ []) =
    walked c.args.all.now.size c.loop-f.yielded c.loop-f.f-iterator c.next.new.self c.args.all.now.flows c.in-Some.f c.size.ensures.set kept.walk c.in-Some.ensures.steps in
    let put : c.insert.new.self.flows ≡ with_flow c.loop-f.kept.flows c.in-Some.f = ap (λ (s : SetOfFlows). s.flows) c.insert.ensures.set in
    record {
      size = ap (λ (s : SetOfFlows). s.size) c.insert.ensures.set ∙ kept.size;
      walk = walk_next c.loop-f.yielded c.loop-f.f-iterator c.next.new.self c.args.all.now.flows c.in-Some.f kept.walk c.in-Some.ensures.steps;
      first =
          subst (λ (fs : List Flow). IsFirst (g.C.Condition.meets_on c.args.condition.now) (c.loop-f.yielded ++ c.in-Some.f ∷ []) fs)
          (sym put)
          (first_kept c.args.all.now.size Holds c.loop-f.yielded c.loop-f.kept.flows c.in-Some.f so_far c.requires.downward kept.first (subst Holds put (c.in_ok-meets.ensures.0 c.if-not-branch.false)));
    }
