-- The representation of a rule of a table: fewer than 65,536 hosts, each with a kind of the table; the default is a kind of the table; and
-- the table is lawful.
use Rattle.std.specs.Prelude.{◌<◌, ◌^◌, length, IsTrue}
use Rattle.std.specs.List.{All}
use Rattle.tmpl_table.specs.KindTable.{TableHosts, is_lawful}

pub record IsTableRule (rule : TableHosts) : Type 0 where
  pub few : length rule.hosts < 2 ^ 16
  pub kinds : All (λ kind. kind < rule.table.kinds) rule.hosts
  pub default : rule.table.default < rule.table.kinds
  pub lawful : IsTrue (is_lawful rule.table)
