use Rattle.std.proofs.Common.{List, [], ◌∷◌, ◌++◌, ◌∙◌, ap, sym, subst}
use Rattle.flow_set.specs.declared.flow.Flow.{Flow}
use Rattle.flow_set.specs.Flow.{IsFlow}
use Rattle.flow_set.specs.FlowSet.{IsOrdered, with_flow}
use Rattle.flow_set.specs.inner.Steps.{UndoableFlows}
use Rattle.flow_set.specs.laws.FlowLaws.{front_before, has_first, IsOrdered-front, with_flow-last}
use Rattle.flow_set.specs.laws.WalkLaws.{walk_next, walk_member}
use Rattle.reach_core.proofs.join_closure.JoinClosure.of.Goals as goal

pub try_add-requires : goal.try_add-requires
try_add-requires c =
    subst (λ n. IsFlow n c.in-Some.f) (sym c.loop-f.invariant.size)
    (c.iter-f-items.ensures.set.flows c.in-Some.f
    (walk_member c.loop-f.yielded c.loop-f.f-iterator c.next.new.self c.args.e.now.flows c.in-Some.f c.loop-f.invariant.walk c.in-Some.ensures.steps))

pub loop-f-preserved : goal.loop-f-preserved
loop-f-preserved c =
    let kept = c.loop-f.invariant in
    let walk =
    walk_next c.loop-f.yielded c.loop-f.f-iterator c.next.new.self c.args.e.now.flows c.in-Some.f kept.walk c.in-Some.ensures.steps in
    let xs : List Flow = c.loop-f.yielded in
    let f : Flow = c.in-Some.f in
    let ordered = IsOrdered-front (xs ++ f ∷ []) c.next.new.self (subst IsOrdered (sym walk) c.iter-f-items.ensures.set.ordered) in
    record {
      size = ap (λ (t : UndoableFlows). t.size) c.try_add.ensures ∙ kept.size;
      flows =
          ap (λ (t : UndoableFlows). t.flows) c.try_add.ensures ∙ ap (λ (fs : List Flow). with_flow fs c.in-Some.f) kept.flows
          ∙ with_flow-last xs f (λ g there. front_before xs (f ∷ []) g f ordered there (has_first f []));
      walk = walk;
    }
