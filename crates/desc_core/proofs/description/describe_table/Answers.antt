use Rattle.desc_core.proofs.DescribeLemmas.{never_refused, table_least, table_none, table_right, table_whole}
use Rattle.toml.specs.View.{table_view}
use Rattle.desc_core.proofs.description.describe_table.Goals as goal

pub returns-clause-least : goal.returns-clause-least
returns-clause-least c = table_least (table_view c.args.table.now) c.read_described.result c.read_described.ensures

pub returns-clause-whole : goal.returns-clause-whole
returns-clause-whole c = table_whole (table_view c.args.table.now) c.read_described.result c.read_described.ensures

pub returns-clause-none : goal.returns-clause-none
returns-clause-none c = table_none (table_view c.args.table.now) c.read_described.result c.read_described.ensures

pub returns-clause-right : goal.returns-clause-right
returns-clause-right c = table_right (table_view c.args.table.now) c.read_described.result c.read_described.ensures

pub returns-clause-accepted : goal.returns-clause-accepted
returns-clause-accepted c = never_refused (table_view c.args.table.now) c.read_described.result c.read_described.ensures
