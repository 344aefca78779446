use Rattle.std.proofs.Common.{◌≡◌, List, ap, sym, ◌∙◌, subst}
use Rattle.std.specs.Prelude.{IsTrue, ◌↔◌, ◌⊎◌}
use Rattle.flow_set.specs.declared.flow.Flow.{Flow}
use Rattle.flow_set.specs.Flow.{IsFlow, reverse_of}
use Rattle.flow_set.specs.FlowSet.{SetOfFlows, has, with_flow, with_back}
use Rattle.flow_set.specs.laws.FlowLaws.{with_back-push}
use Rattle.flow_set.proofs.SubsetLaws.{IsFlow-reverse_of, with_back_members}
use Rattle.flow_set.specs.laws.WalkLaws.{walk_next, walk_member, walk_end}
use Rattle.flow_set.proofs.set.FlowSet.with_back.Goals as goal

pub insert-requires : goal.insert-requires
insert-requires c =
    let kept = c.loop-f.invariant in
    let member : IsTrue (has c.args.s.now.flows c.in-Some.f) =
    walk_member c.loop-f.yielded c.loop-f.f-iterator c.next.new.self c.args.s.now.flows c.in-Some.f kept.walk c.in-Some.ensures.steps in
    subst (λ n. IsFlow n c.back.result) (c.requires ∙ sym kept.size)
    (subst (λ (f : Flow). IsFlow c.args.s.now.size f) (sym c.back.ensures) (IsFlow-reverse_of c.args.s.now.size c.in-Some.f (c.iter-f-items.ensures.set.flows c.in-Some.f member)))

pub loop-f-preserved : goal.loop-f-preserved
loop-f-preserved c =
    let kept = c.loop-f.invariant in
    record {
      size = ap (λ (s : SetOfFlows). s.size) c.insert.ensures.set ∙ kept.size;
      flows =
          ap (λ (s : SetOfFlows). s.flows) c.insert.ensures.set
          ∙ ap (λ (f : Flow). with_flow c.loop-f.all.flows f) c.back.ensures
          ∙ ap (λ (fs : List Flow). with_flow fs (reverse_of c.in-Some.f)) kept.flows
          ∙ sym (with_back-push c.args.self.now.flows c.loop-f.yielded c.in-Some.f c.copy.ensures.set.ordered);
      walk = walk_next c.loop-f.yielded c.loop-f.f-iterator c.next.new.self c.args.s.now.flows c.in-Some.f kept.walk c.in-Some.ensures.steps;
    }

members_of : (fs gs all : List Flow) → all ≡ with_back fs gs → (f : Flow)
    → IsTrue (has all f) ↔ (IsTrue (has fs f) ⊎ IsTrue (has gs (reverse_of f)))
members_of fs gs all is f =
    subst (λ (xs : List Flow). IsTrue (has xs f) ↔ (IsTrue (has fs f) ⊎ IsTrue (has gs (reverse_of f)))) (sym is) (with_back_members fs gs f)

pub returns-clause-members : goal.returns-clause-members
returns-clause-members c =
    let kept = c.loop-f.invariant in
    members_of c.args.self.now.flows c.args.s.now.flows c.loop-f.all.flows
    (kept.flows ∙ ap (with_back c.args.self.now.flows) (walk_end c.loop-f.yielded c.loop-f.f-iterator c.args.s.now.flows kept.walk c.in-None.ensures.steps.0))
