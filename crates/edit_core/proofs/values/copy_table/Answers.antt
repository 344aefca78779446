use Rattle.edit_core.proofs.CopyLemmas.{table_cloned}
use Rattle.edit_core.proofs.values.copy_table.Goals as goal

pub returns : goal.returns
returns c = table_cloned c.args.table.now _ c.clone.result c.clone.ensures.cases
