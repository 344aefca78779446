use Rattle.std.proofs.lemmas.Result.{err_from_is_err_and}
use Rattle.desc_core.proofs.DescribeLemmas.{least_told, none_holds, table_read, table_refused, whole_read}
use Rattle.toml.specs.View.{table_view}
use Rattle.desc_core.proofs.description.describe.Goals as goal

pub returns-in_err-table-clause-given : goal.returns-in_err-table-clause-given
returns-in_err-table-clause-given c =
    let p = err_from_is_err_and c.from_residual.result c.from_residual.ensures.1 in
    rw (p.1, p.2) (table_refused c.args.bytes.now c.in_err-table.field-0.0 c.in_err-table.ensures)

pub returns-in_err-table-clause-least : goal.returns-in_err-table-clause-least
returns-in_err-table-clause-least c =
    let p = err_from_is_err_and c.from_residual.result c.from_residual.ensures.1 in
    least_told c.args.bytes.now c.from_residual.result (rw (p.1, p.2) (table_refused c.args.bytes.now c.in_err-table.field-0.0 c.in_err-table.ensures))

pub returns-clause-given : goal.returns-clause-given
returns-clause-given c = rw (table_read c.args.bytes.now (table_view c.in_ok-table.table) c.in_ok-table.ensures) c.describe_table.ensures.given

pub returns-clause-least : goal.returns-clause-least
returns-clause-least c =
    least_told c.args.bytes.now c.describe_table.result (rw (table_read c.args.bytes.now (table_view c.in_ok-table.table) c.in_ok-table.ensures) c.describe_table.ensures.given)

pub returns-clause-whole : goal.returns-clause-whole
returns-clause-whole c =
    whole_read c.args.bytes.now c.describe_table.result (rw (table_read c.args.bytes.now (table_view c.in_ok-table.table) c.in_ok-table.ensures) c.describe_table.ensures.given)

pub returns-clause-none : goal.returns-clause-none
returns-clause-none c =
    none_holds c.args.bytes.now c.describe_table.result (rw (table_read c.args.bytes.now (table_view c.in_ok-table.table) c.in_ok-table.ensures) c.describe_table.ensures.given)
