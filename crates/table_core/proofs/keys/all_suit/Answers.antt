use Rattle.std.proofs.Common.{◌∙◌}
use Rattle.table_core.specs.Keys.{all_suit, suits_in}
use Rattle.table_core.proofs.KeyTables.{every_key}
use Rattle.table_core.proofs.keys.all_suit.Goals as goal
use Rattle.toml.specs.View.{table_view}

pub returns : goal.returns
unfolding all_suit
returns c = c.each_suits.ensures ∙ every_key (suits_in (table_view c.args.table.now)) c.args.keys.now
