use Rattle.std.proofs.Common.{◌≡◌, List, ◌++◌, sym, ◌∙◌, ap, subst}
use Rattle.std.specs.Prelude.{IsFalse}
use Rattle.flow_set.specs.declared.flow.Flow.{Flow}
use Rattle.flow_set.specs.Flow.{IsFlow}
use Rattle.flow_set.specs.FlowSet.{SetOfFlows, has, IsOrdered, with_flow}
use Rattle.flow_set.specs.inner.FlowSetView.{without_flow}
use Rattle.flow_set.specs.laws.FlowLaws.{set_ext, IsOrdered-with_flow, IsOrdered-without_flow}
use Rattle.flow_set.specs.laws.WalkLaws.{walk_next, walk_member, walk_end}
use Rattle.permit_core.proofs.Turning.{is_next, turned_out, turned_in, turned_whole}
use Rattle.permit_core.proofs.offence_by_steps.turn_out.Goals as goal

pub remove-requires : goal.remove-requires
remove-requires c =
    let f = c.in-Some.f in
    let there =
    walk_member c.loop-f.yielded c.loop-f.f-iterator c.next.new.self c.args.all.now.flows f c.loop-f.invariant.walk c.in-Some.ensures.steps in
    subst (λ n. IsFlow n f) (c.requires.size ∙ sym c.loop-f.invariant.size) (c.iter-f-items.ensures.set.flows f there)

pub insert-requires : goal.insert-requires
insert-requires c =
    let f = c.in-Some.f in
    let there =
    walk_member c.loop-f.yielded c.loop-f.f-iterator c.next.new.self c.args.all.now.flows f c.loop-f.invariant.walk c.in-Some.ensures.steps in
    subst (λ n. IsFlow n f) (c.requires.size ∙ sym (ap (λ (s : SetOfFlows). s.size) c.remove.ensures.set ∙ c.loop-f.invariant.size))
    (c.iter-f-items.ensures.set.flows f there)

pub loop-f-preserved-then-not-remove : goal.loop-f-preserved-then-not-remove
loop-f-preserved-then-not-remove c =
    let f = c.in-Some.f in
    let set : List Flow = c.loop-f.set.flows in
    let new : IsFalse (has c.loop-f.yielded f) =
    is_next c.loop-f.yielded c.next.new.self c.args.all.now.flows f c.iter-f-items.ensures.set.ordered
    (ap (λ ys. c.loop-f.yielded ++ ys) (sym c.in-Some.ensures.steps) ∙ c.loop-f.invariant.walk) in
    let now : c.insert.new.self.flows ≡ with_flow (without_flow set f) f =
    ap (λ (s : SetOfFlows). s.flows) c.insert.ensures.set ∙ ap (λ (s : SetOfFlows). with_flow s.flows f) c.remove.ensures.set in
    record {
      walk = walk_next c.loop-f.yielded c.loop-f.f-iterator c.next.new.self c.args.all.now.flows f c.loop-f.invariant.walk c.in-Some.ensures.steps;
      size = ap (λ (s : SetOfFlows). s.size) c.insert.ensures.set ∙ ap (λ (s : SetOfFlows). s.size) c.remove.ensures.set ∙ c.loop-f.invariant.size;
      ordered = subst IsOrdered (sym now) (IsOrdered-with_flow (without_flow set f) f (IsOrdered-without_flow set f c.loop-f.invariant.ordered));
      flows = λ g. ap (λ (zs : List Flow). has zs g) now ∙ turned_in set c.loop-f.yielded c.args.set.now.flows f g new c.loop-f.invariant.flows (sym c.remove.ensures.changed ∙ c.if-not-remove.true);
    }

pub loop-f-preserved : goal.loop-f-preserved
loop-f-preserved c =
    let f = c.in-Some.f in
    let set : List Flow = c.loop-f.set.flows in
    let new : IsFalse (has c.loop-f.yielded f) =
    is_next c.loop-f.yielded c.next.new.self c.args.all.now.flows f c.iter-f-items.ensures.set.ordered
    (ap (λ ys. c.loop-f.yielded ++ ys) (sym c.in-Some.ensures.steps) ∙ c.loop-f.invariant.walk) in
    let now : c.remove.new.self.flows ≡ without_flow set f = ap (λ (s : SetOfFlows). s.flows) c.remove.ensures.set in
    record {
      walk = walk_next c.loop-f.yielded c.loop-f.f-iterator c.next.new.self c.args.all.now.flows f c.loop-f.invariant.walk c.in-Some.ensures.steps;
      size = ap (λ (s : SetOfFlows). s.size) c.remove.ensures.set ∙ c.loop-f.invariant.size;
      ordered = subst IsOrdered (sym now) (IsOrdered-without_flow set f c.loop-f.invariant.ordered);
      flows = λ g. ap (λ (zs : List Flow). has zs g) now ∙ turned_out set c.loop-f.yielded c.args.set.now.flows f g new c.loop-f.invariant.flows (sym c.remove.ensures.changed ∙ c.if-not-remove.false);
    }

pub returns : goal.returns
returns c =
    let whole = walk_end c.loop-f.yielded c.loop-f.f-iterator c.args.all.now.flows c.loop-f.invariant.walk c.in-None.ensures.steps.0 in
    set_ext c.loop-f.set _ c.loop-f.invariant.size
    (turned_whole c.loop-f.set.flows c.loop-f.yielded c.args.all.now.flows c.args.set.now.flows c.loop-f.invariant.ordered c.iter-f-items.ensures.set.ordered c.requires.within whole c.loop-f.invariant.flows)
