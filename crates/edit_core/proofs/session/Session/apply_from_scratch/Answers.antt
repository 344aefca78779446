use Rattle.std.proofs.lemmas.Result.{err_from_is_err_and}
use Rattle.edit_core.specs.inner.EditView.{change_view}
use Rattle.edit_core.proofs.SessionLemmas.{applied_now, not_described_now, not_edited_now}
use Rattle.edit_core.proofs.session.Session.apply_from_scratch.Goals as goal

pub returns-in_err-table-clause-applied : goal.returns-in_err-table-clause-applied
returns-in_err-table-clause-applied c =
    let p = err_from_is_err_and c.from_residual.result c.from_residual.ensures.1 in
    rw (p.1, p.2)
    (not_edited_now (change_view c.args.change.now) c.args.self.now c.self.inside.table c.in_err-table.field-0.0 c.self.view_is c.in_err-table.ensures)

pub returns-in_err-next-clause-applied : goal.returns-in_err-next-clause-applied
returns-in_err-next-clause-applied c =
    let p = err_from_is_err_and c.from_residual-in_err-next.result c.from_residual-in_err-next.ensures.1 in
    rw (p.1, p.2)
    (not_described_now (change_view c.args.change.now) c.args.self.now c.self.inside.table c.in_ok-table.table c.in_err-next.field-0.0 c.self.view_is
    c.in_ok-table.ensures c.in_err-next.ensures.refused)

pub returns-clause-applied : goal.returns-clause-applied
returns-clause-applied c =
    applied_now (change_view c.args.change.now) c.args.self.now c.in_ok-next.next c.self.inside.table c.in_ok-table.table c.next.inside.table
    c.next.inside.network.network c.next.inside.network.policy c.summary_of-summary.result c.self.view_is c.in_ok-table.ensures c.in_ok-next.ensures.table
    c.next.view_is (record { described = c.next.invariant; is_policy = c.summary_of-summary.ensures.policy }) c.summary_of-summary.ensures.tells
