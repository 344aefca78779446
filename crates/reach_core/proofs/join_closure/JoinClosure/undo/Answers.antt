use Rattle.std.proofs.Common.{sym, subst}
use Rattle.std.specs.Prelude.{IsSome}
use Rattle.flow_set.specs.inner.Steps.{UndoableFlows}
use Rattle.reach_core.specs.inner.Rows.{HasJoinRows}
use Rattle.reach_core.proofs.JoinRows.{HasJoinRows-back}
use Rattle.reach_core.proofs.join_closure.JoinClosure.undo.Goals as goal

pub invariant_of-self : goal.invariant_of-self
invariant_of-self c =
    subst (λ (t : UndoableFlows). HasJoinRows t c.back.new.self) (sym c.back-2.ensures)
    (HasJoinRows-back c.self.inside.steps c.self.inside.joined c.back.new.self
    (subst (λ (t : UndoableFlows). IsSome t.before_step) (sym c.self.view_is) c.requires) c.self.invariant
    c.back.ensures.rows c.back.ensures.before c.back.ensures.changed)
