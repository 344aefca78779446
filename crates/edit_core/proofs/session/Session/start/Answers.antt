use Rattle.std.proofs.lemmas.Result.{err_from_is_err_and}
use Rattle.edit_core.proofs.SessionLemmas.{no_table, started}
use Rattle.edit_core.proofs.session.Session.start.Goals as goal

pub returns-in_err-table : goal.returns-in_err-table
returns-in_err-table c =
    let p = err_from_is_err_and c.from_residual.result c.from_residual.ensures.1 in
    rw (p.1, p.2) (no_table c.args.bytes.now c.in_err-table.field-0.0 c.in_err-table.ensures)

pub returns : goal.returns
returns c =
    started c.args.bytes.now c.in_ok-table.table c.of_table.result c.in_ok-table.ensures c.of_table.ensures.table c.of_table.ensures.described
    c.of_table.ensures.refused
