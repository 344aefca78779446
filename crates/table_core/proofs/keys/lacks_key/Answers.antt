use Rattle.std.proofs.Common.{◌∙◌, ◌&&◌, not}
use Rattle.table_core.specs.Keys.{lacks_key}
use Rattle.table_core.specs.Tables.{has_key}
use Rattle.table_core.proofs.KeyTables.{some_key}
use Rattle.table_core.proofs.keys.lacks_key.Goals as goal
use Rattle.toml.specs.View.{table_view}

pub returns : goal.returns
unfolding lacks_key
returns c =
    c.is_one_missing.ensures ∙ some_key (λ key. key.needed && not (has_key key.name (table_view c.args.table.now))) c.args.keys.now
