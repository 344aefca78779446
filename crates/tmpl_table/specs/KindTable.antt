-- Templates that are declared as tables: each host has a kind, and some pairs of kinds, of a sender and a receiver, are denied (the
-- description's format, docs/FORMATS.md).
use Rattle.std.specs.Prelude.{◌<◌, ℕ, Bool, not, ◌&&◌, ◌==◌, List, IsTrue}
use Rattle.std.specs.List.{list_all, list_any}
use Rattle.inv_law.specs.Template.{Template, edge_template}
use Rattle.inv_law.specs.declared.strategy.Strategy.{Strategy}
use Rattle.inv_law.specs.declared.strategy.Strategy.TheVariants.{Access, Information}

-- A table: its name, the strategy, which determines the offending host, the number of kinds, the default kind, and the denied pairs.
pub record KindTable : Type 0 where
  pub name : List ℕ
  pub strategy : Strategy
  pub kinds : ℕ
  pub default : ℕ
  pub denied : List (ℕ × ℕ)

-- The pair is in the list.
abbrev pub lists : List (ℕ × ℕ) → ℕ × ℕ → Bool
lists pairs pair = list_any (λ other. (other.0 == pair.0) && (other.1 == pair.1)) pairs

-- The pair with this kind at the offending host.
abbrev pub with_kind : Strategy → ℕ → ℕ × ℕ → ℕ × ℕ
with_kind Access kind pair = (kind, pair.1)
with_kind Information kind pair = (pair.0, kind)

-- The pair passes after its offending host is given this kind.
abbrev pub passes_with : Strategy → List (ℕ × ℕ) → ℕ → ℕ × ℕ → Bool
passes_with strategy denied kind pair = not (lists denied (with_kind strategy kind pair))

-- A table is lawful if each denied pair has a denied partner: the same pair with the default at the offending host.
abbrev pub is_lawful : KindTable → Bool
is_lawful table = list_all (λ pair. not (passes_with table.strategy table.denied table.default pair)) table.denied

-- A flow passes between two kinds of the table. A table that is not lawful is refused; here it denies nothing.
abbrev pub TablePasses : KindTable → ℕ → ℕ → Type 0
TablePasses table sender receiver = IsTrue (not (is_lawful table && lists table.denied (sender, receiver)))

-- The template that the table declares: it is edge-wise, by the kinds of the two hosts of a flow.
abbrev pub declared : KindTable → Template
declared table = edge_template table.name table.strategy (λ kind. kind < table.kinds) table.default (TablePasses table)

-- A table, and the kind of each host.
pub record TableHosts : Type 0 where
  pub table : KindTable
  pub hosts : List ℕ
