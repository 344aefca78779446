use Rattle.std.proofs.Common.{◌≡◌, ◌&&◌, ℕ, List, ap, sym, subst, ◌∙◌}
use Rattle.std.specs.Prelude.{IsTrue}
use Rattle.flow_set.specs.declared.flow.Flow.{Flow}
use Rattle.flow_set.specs.Flow.{IsFlow}
use Rattle.flow_set.specs.FlowSet.{has}
use Rattle.flow_set.specs.laws.WalkLaws.{walk_end, walk_member, walk_next}
use Rattle.change_core.specs.inner.Listing.{is_new}
use Rattle.change_core.proofs.GapLaws.{gaps_where, inserted_size, members_more, new_by_rows}
use Rattle.change_core.proofs.gaps.new_gaps.Goals as goal

pub insert_if-requires : goal.insert_if-requires
insert_if-requires c =
    let kept = c.loop-flow.invariant in
    let member : IsTrue (has c.args.gaps.now.flows c.in-Some.flow) =
    walk_member c.loop-flow.yielded c.loop-flow.flow-iterator c.next.new.self c.args.gaps.now.flows c.in-Some.flow kept.walk c.in-Some.ensures.steps in
    subst (λ (n : ℕ). IsFlow n c.in-Some.flow) (sym kept.size) (c.iter-flow-items.ensures.set.flows c.in-Some.flow member)

pub loop-flow-preserved : goal.loop-flow-preserved
loop-flow-preserved c =
    let kept = c.loop-flow.invariant in
    let wanted : c.lacks_some.result ≡ is_new c.args.old_gaps.now.flows c.in_ok-rows.rows.items c.in-Some.flow =
    new_by_rows c.args.old_gaps.now.flows c.in_ok-rows.rows.items c.deref.result.now c.deref-in-loop-flow.result.now c.in-Some.flow
    c.row_of-from.result.now c.row_of-to.result.now c.lacks_some.result c.deref.ensures.value c.deref-in-loop-flow.ensures.value c.row_of-from.ensures
    c.row_of-to.ensures c.lacks_some.ensures in
    record {
      size = inserted_size c.loop-flow.set c.insert_if.new.set c.in-Some.flow c.lacks_some.result c.insert_if.ensures ∙ kept.size;
      members =
          members_more (is_new c.args.old_gaps.now.flows c.in_ok-rows.rows.items) c.loop-flow.set c.insert_if.new.set c.loop-flow.yielded c.in-Some.flow
          c.lacks_some.result kept.members wanted c.insert_if.ensures;
      walk =
          walk_next c.loop-flow.yielded c.loop-flow.flow-iterator c.next.new.self c.args.gaps.now.flows c.in-Some.flow kept.walk c.in-Some.ensures.steps;
    }

pub returns-clause-exact : goal.returns-clause-exact
returns-clause-exact c =
    let kept = c.loop-flow.invariant in
    let rows = c.in_ok-rows.rows.items in
    gaps_where c.args.old.now c.args.old_gaps.now.flows c.args.new.now c.args.gaps.now.flows rows c.loop-flow.set.flows c.in_ok-rows.ensures
    (λ g.
    kept.members g
    ∙ ap (λ (fs : List Flow). has fs g && is_new c.args.old_gaps.now.flows rows g)
    (walk_end c.loop-flow.yielded c.loop-flow.flow-iterator c.args.gaps.now.flows kept.walk c.in-None.ensures.steps.0))
