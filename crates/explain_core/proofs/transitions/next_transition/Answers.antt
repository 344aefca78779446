use Rattle.std.proofs.Common.{◌≡◌, List, [], ◌∷◌, ◌++◌, sym, ◌∙◌, ap, subst}
use Rattle.std.specs.List.{fold}
use Rattle.std.proofs.lemmas.List.Sums.{fold_push}
use Rattle.flow_set.specs.declared.flow.Flow.{Flow}
use Rattle.flow_set.specs.Flow.{IsFlow}
use Rattle.flow_set.specs.FlowSet.{SetOfFlows, IsOrdered, with_flow}
use Rattle.flow_set.specs.inner.Steps.{UndoableFlows}
use Rattle.flow_set.specs.laws.FlowLaws.{front_before, has_first, with_flow-last}
use Rattle.flow_set.specs.laws.WalkLaws.{walk_next, walk_member}
use Rattle.explain_core.proofs.transitions.next_transition.Goals as goal

pub holds_with-requires-clause-flow : goal.holds_with-requires-clause-flow
holds_with-requires-clause-flow g c =
    subst (λ n. IsFlow n c.in-Some.flow) c.requires.rest_size
    (c.iter-flow-items.ensures.set.flows c.in-Some.flow
    (walk_member c.loop-flow.yielded c.loop-flow.flow-iterator c.next.new.self c.args.rest.now.flows c.in-Some.flow c.loop-flow.invariant.walk c.in-Some.ensures.steps))

pub step-requires-clause-flow : goal.step-requires-clause-flow
step-requires-clause-flow g c =
    subst (λ n. IsFlow n c.in-Some.flow) c.requires.rest_size
    (c.iter-flow-items.ensures.set.flows c.in-Some.flow
    (walk_member c.loop-flow.yielded c.loop-flow.flow-iterator c.next.new.self c.args.rest.now.flows c.in-Some.flow c.loop-flow.invariant.walk c.in-Some.ensures.steps))

pub insert-requires : goal.insert-requires
insert-requires g c =
    subst (λ n. IsFlow n c.in-Some.flow) (sym c.loop-flow.invariant.size)
    (c.iter-flow-items.ensures.set.flows c.in-Some.flow
    (walk_member c.loop-flow.yielded c.loop-flow.flow-iterator c.next.new.self c.args.rest.now.flows c.in-Some.flow c.loop-flow.invariant.walk c.in-Some.ensures.steps))

pub loop-flow-preserved : goal.loop-flow-preserved
loop-flow-preserved g c =
    let f = c.in-Some.flow in
    let so_far : List Flow = c.loop-flow.yielded in
    let needed : List Flow = c.args.needed.now.flows in
    let Holds = g.I.Invariant.holds_on c.args.inv.now in
    let whole : so_far ++ f ∷ c.next.new.self ≡ c.args.rest.now.flows =
    ap (λ ys. so_far ++ ys) (sym c.in-Some.ensures.steps) ∙ c.loop-flow.invariant.walk in
    let last : with_flow so_far f ≡ so_far ++ f ∷ [] =
    with_flow-last so_far f
    (λ h there. front_before so_far (f ∷ c.next.new.self) h f (subst IsOrdered (sym whole) c.iter-flow-items.ensures.set.ordered) there (has_first f c.next.new.self)) in
    let more : with_flow (fold with_flow needed so_far) f ≡ fold with_flow needed (so_far ++ f ∷ []) =
    sym (fold_push with_flow needed so_far f) in
    let tried : (g.I.Tried.Trial.tried c.step.new.tried).flows ≡ with_flow (fold with_flow needed so_far) f =
    ap (λ (t : UndoableFlows). t.flows) c.step.ensures.stepped
    ∙ ap (λ (t : UndoableFlows). with_flow t.flows f) c.holds_with.ensures.again
    ∙ ap (λ fs. with_flow fs f) c.loop-flow.invariant.flows in
    record {
      walk = walk_next so_far c.loop-flow.flow-iterator c.next.new.self c.args.rest.now.flows f c.loop-flow.invariant.walk c.in-Some.ensures.steps;
      size = ap (λ (s : SetOfFlows). s.size) c.insert.ensures.set ∙ c.loop-flow.invariant.size;
      before = ap (λ (s : SetOfFlows). s.flows) c.insert.ensures.set ∙ ap (λ fs. with_flow fs f) c.loop-flow.invariant.before ∙ last;
      fits = c.step.ensures.fits;
      flows = tried ∙ more;
      held = subst Holds more (subst (λ fs. Holds (with_flow fs f)) c.loop-flow.invariant.flows (c.holds_with.ensures.answer.0 c.if-not-holds_with.false));
    }
