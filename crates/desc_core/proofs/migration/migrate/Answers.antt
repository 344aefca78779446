use Rattle.std.proofs.Common.{Some, false, ap, subst, ◌∙◌}
use Rattle.std.proofs.lemmas.Result.{err_from_is_err_and}
use Rattle.toml.specs.Data.{Members}
use Rattle.toml.specs.Text.{IsDocumentText}
use Rattle.toml.specs.View.{table_view}
use Rattle.desc_core.proofs.DescribeLemmas.{table_refused}
use Rattle.desc_core.proofs.MigrationLemmas.{prints, refused_so, refused_table, is_migrated}
use Rattle.desc_core.proofs.migration.migrate.Goals as goal

pub returns-in_err-table : goal.returns-in_err-table
returns-in_err-table c =
    let p = err_from_is_err_and c.from_residual.result c.from_residual.ensures.1 in
    rw (p.1, p.2) (refused_so c.args.bytes.now c.in_err-table.field-0.0 (table_refused c.args.bytes.now c.in_err-table.field-0.0 c.in_err-table.ensures))

pub returns-in_err-accept : goal.returns-in_err-accept
returns-in_err-accept c =
    let p = err_from_is_err_and c.from_residual-in_err-accept.result c.from_residual-in_err-accept.ensures.1 in
    rw (p.1, p.2)
    (refused_table c.args.bytes.now (table_view c.in_ok-table.table) c.in_err-accept.field-0.0 c.in_ok-table.ensures c.in_err-accept.ensures.refused)

pub print-requires-clause-depth : goal.print-requires-clause-depth
print-requires-clause-depth c =
    (prints c.args.bytes.now (table_view c.in_ok-table.table) (table_view c.set_version.new.table) c.in_ok-accept.ensures.accepted.0
    c.in_ok-table.ensures c.in_ok-accept.ensures.accepted.1 c.in_ok-set_version.ensures).0

pub print-requires-clause-dates : goal.print-requires-clause-dates
print-requires-clause-dates c =
    (prints c.args.bytes.now (table_view c.in_ok-table.table) (table_view c.set_version.new.table) c.in_ok-accept.ensures.accepted.0
    c.in_ok-table.ensures c.in_ok-accept.ensures.accepted.1 c.in_ok-set_version.ensures).1

pub returns : goal.returns
returns c =
    is_migrated c.args.bytes.now c.in_ok-print.field-0.items (table_view c.in_ok-table.table) c.in_ok-accept.ensures.accepted.0
    c.in_ok-table.ensures c.in_ok-accept.ensures.accepted.1 (c.in_ok-print.ensures.read_back ∙ ap Some c.in_ok-set_version.ensures)
    (subst (λ (ms : Members). IsDocumentText false ms c.in_ok-print.field-0.items) c.in_ok-set_version.ensures c.in_ok-print.ensures.printed)
