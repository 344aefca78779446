use Rattle.std.proofs.Common.{◌<◌, sym, subst, arith}
use Rattle.flow_set.specs.Flow.{IsFlow}
use Rattle.flow_set.specs.inner.Steps.{UndoableFlows}
use Rattle.reach_core.proofs.ReachRows.{AreOpened, senders_below, beyond_below, reached_already, HasReachRows-as, HasReachRows-kept, HasReachRows-widened}
use Rattle.reach_core.proofs.reach_closure.ReachClosure.try_add.Goals as goal
use Rattle.reach_core.proofs.reach_closure.ReachClosure.try_add.Goals.{then-has, else-has}

pub union_into-requires-clause-below : goal.union_into-requires-clause-below
union_into-requires-clause-below c i there =
    let t : UndoableFlows = c.self.inside.steps in
    let f = c.args.f in
    let is_flow : IsFlow t.size f = subst (λ (s : UndoableFlows). IsFlow s.size f) (sym c.self.view_is) c.requires in
    let rows = c.self.invariant in
    let are : AreOpened t.flows f c.newly_reaching-senders.result c.opened_to-beyond.result =
    subst (λ (s : UndoableFlows). AreOpened s.flows f c.newly_reaching-senders.result c.opened_to-beyond.result) (sym c.self.view_is)
    (record { by = c.newly_reaching-senders.ensures.hosts; to = c.opened_to-beyond.ensures }) in
    let below : i < t.size = senders_below t.size t.flows f _ _ is_flow rows.now.is_set are i there in
    omega (arith, below, rows.reached_fits.rows_length)

pub union_into-requires-else-has-clause-below : goal.union_into-requires-else-has-clause-below
union_into-requires-else-has-clause-below c i there =
    let t : UndoableFlows = c.self.inside.steps in
    let f = c.args.f in
    let is_flow : IsFlow t.size f = subst (λ (s : UndoableFlows). IsFlow s.size f) (sym c.self.view_is) c.requires in
    let rows = c.self.invariant in
    let are : AreOpened t.flows f c.newly_reaching-senders.result c.opened_to-beyond.result =
    subst (λ (s : UndoableFlows). AreOpened s.flows f c.newly_reaching-senders.result c.opened_to-beyond.result) (sym c.self.view_is)
    (record { by = c.newly_reaching-senders.ensures.hosts; to = c.opened_to-beyond.ensures }) in
    let below : i < t.size = beyond_below t.size t.flows f _ _ is_flow rows.now.is_set are i there in
    omega (arith, below, rows.coming_fits.rows_length)

pub invariant_of-self : goal.invariant_of-self
invariant_of-self c =
    let t : UndoableFlows = c.self.inside.steps in
    let f = c.args.f in
    let is_flow : IsFlow t.size f = subst (λ (s : UndoableFlows). IsFlow s.size f) (sym c.self.view_is) c.requires in
    let rows = c.self.invariant in
    elim c.if-has.branch [
      | then-has w ↦
          HasReachRows-as t c.step.new.self f c.if-has.self-inside.steps w.keep.new.self w.keep-then-has.new.self c.if-has.self-inside.reached c.if-has.self-inside.coming c.step.ensures
          (λ i. (w.self-inside-is i).steps) (λ i. (w.self-inside-is i).reached) (λ i. (w.self-inside-is i).coming)
          (HasReachRows-kept t f c.self.inside.reached c.self.inside.coming w.keep.new.self w.keep-then-has.new.self is_flow rows
          (reached_already t f c.self.inside.reached c.self.inside.coming c.row.result.now c.has.result is_flow rows c.row.ensures c.has.ensures w.if-has.true)
          w.keep.ensures w.keep-then-has.ensures)
      | else-has w ↦
          HasReachRows-as t c.step.new.self f c.if-has.self-inside.steps w.union_into.new.self w.union_into-else-has.new.self c.if-has.self-inside.reached c.if-has.self-inside.coming c.step.ensures
          (λ i. (w.self-inside-is i).steps) (λ i. (w.self-inside-is i).reached) (λ i. (w.self-inside-is i).coming)
          (HasReachRows-widened t f c.self.inside.reached c.self.inside.coming w.union_into.new.self w.union_into-else-has.new.self w.newly_reaching-senders.result w.opened_to-beyond.result is_flow rows
          (subst (λ (s : UndoableFlows). AreOpened s.flows f w.newly_reaching-senders.result w.opened_to-beyond.result) (sym c.self.view_is)
          (record { by = w.newly_reaching-senders.ensures.hosts; to = w.opened_to-beyond.ensures }))
          w.union_into.ensures.rows w.union_into.ensures.changed w.union_into-else-has.ensures.rows w.union_into-else-has.ensures.changed)
    ]
