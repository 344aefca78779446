use Rattle.std.proofs.Common.{arith}
use Rattle.toml.specs.View.{table_view}
use Rattle.desc_core.proofs.MigrationLemmas.{printed_document}
use Rattle.desc_core.proofs.migration.print.Goals as goal

pub returns-in-Ok-clause-read_back : goal.returns-in-Ok-clause-read_back
returns-in-Ok-clause-read_back c =
    rw c.into_bytes.ensures.value
    (printed_document c.in-Ok.text (table_view c.args.table.now) (c.in-Ok.ensures.reads_back (omega (arith, c.requires.depth))))

pub returns-in-Ok-clause-printed : goal.returns-in-Ok-clause-printed
returns-in-Ok-clause-printed c = rw c.into_bytes.ensures.value c.in-Ok.ensures.text
