use Rattle.std.proofs.Common.{◌<◌, sym, subst, arith}
use Rattle.flow_set.specs.Flow.{IsFlow}
use Rattle.flow_set.specs.inner.Steps.{UndoableFlows}
use Rattle.reach_core.proofs.JoinRows.{AreTouched, touched_as_joined, touched_below, joined_already, HasJoinRows-as, HasJoinRows-kept, HasJoinRows-widened}
use Rattle.reach_core.proofs.join_closure.JoinClosure.try_add.Goals as goal
use Rattle.reach_core.proofs.join_closure.JoinClosure.try_add.Goals.{then-has, else-has}

pub union_into-requires-clause-below : goal.union_into-requires-clause-below
union_into-requires-clause-below c i there =
    let t : UndoableFlows = c.self.inside.steps in
    let is_flow : IsFlow t.size c.args.f = subst (λ (s : UndoableFlows). IsFlow s.size c.args.f) (sym c.self.view_is) c.requires in
    let rows = c.self.invariant in
    let are = subst (λ (s : UndoableFlows). AreTouched s.flows c.args.f c.joined_by-all.result) (sym c.self.view_is)
    (touched_as_joined c.args.self.now.flows c.args.f c.joined_by-all.result c.joined_by-all.ensures) in
    let below : i < t.size = touched_below t.size t.flows c.args.f c.joined_by-all.result is_flow rows.now.is_set are i there in
    omega (arith, below, rows.joined_fits.rows_length)

pub invariant_of-self : goal.invariant_of-self
invariant_of-self c =
    let t : UndoableFlows = c.self.inside.steps in
    let is_flow : IsFlow t.size c.args.f = subst (λ (s : UndoableFlows). IsFlow s.size c.args.f) (sym c.self.view_is) c.requires in
    let rows = c.self.invariant in
    elim c.if-has.branch [
      | then-has w ↦
          HasJoinRows-as t c.step.new.self c.args.f c.if-has.self-inside.steps w.keep.new.self c.if-has.self-inside.joined c.step.ensures (λ i. (w.self-inside-is i).steps) (λ i. (w.self-inside-is i).joined)
          (HasJoinRows-kept t c.args.f c.self.inside.joined w.keep.new.self is_flow rows
          (joined_already t c.args.f c.self.inside.joined c.row.result.now c.has.result is_flow rows c.row.ensures c.has.ensures w.if-has.true) w.keep.ensures)
      | else-has w ↦
          HasJoinRows-as t c.step.new.self c.args.f c.if-has.self-inside.steps w.union_into.new.self c.if-has.self-inside.joined c.step.ensures (λ i. (w.self-inside-is i).steps) (λ i. (w.self-inside-is i).joined)
          (HasJoinRows-widened t c.args.f c.self.inside.joined w.union_into.new.self w.joined_by-all.result is_flow rows
          (subst (λ (s : UndoableFlows). AreTouched s.flows c.args.f w.joined_by-all.result) (sym c.self.view_is)
          (touched_as_joined c.args.self.now.flows c.args.f w.joined_by-all.result w.joined_by-all.ensures))
          w.union_into.ensures.rows w.union_into.ensures.changed)
    ]
