use Rattle.std.proofs.Common.{sym, subst}
use Rattle.std.specs.Prelude.{IsSome}
use Rattle.flow_set.specs.inner.Steps.{UndoableFlows}
use Rattle.reach_core.specs.inner.Rows.{HasReachRows}
use Rattle.reach_core.proofs.ReachRows.{HasReachRows-back}
use Rattle.reach_core.proofs.reach_closure.ReachClosure.undo.Goals as goal

pub invariant_of-self : goal.invariant_of-self
invariant_of-self c =
    subst (λ (t : UndoableFlows). HasReachRows t c.back.new.self c.back-2.new.self) (sym c.back-3.ensures)
    (HasReachRows-back c.self.inside.steps c.self.inside.reached c.self.inside.coming c.back.new.self c.back-2.new.self
    (subst (λ (t : UndoableFlows). IsSome t.before_step) (sym c.self.view_is) c.requires) c.self.invariant
    c.back.ensures.rows c.back.ensures.before c.back.ensures.changed
    c.back-2.ensures.rows c.back-2.ensures.before c.back-2.ensures.changed)
