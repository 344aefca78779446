-- The table `ip topos` with the texts whose chains it has, and what an order does to it.
use Rattle.std.specs.Prelude.{ℕ, Option, None, Some, is_some, List, [], ◌∷◌}
use Rattle.load_core.specs.declared.order.Order.{Order}
use Rattle.load_core.specs.declared.order.Order.TheVariants.{Write, Switch, Keep, Erase, Remove}
use Rattle.load_core.specs.declared.state.Generation.{Generation}
use Rattle.load_core.specs.declared.state.Generation.TheVariants.{A, B}
use Rattle.load_core.specs.declared.state.Forward.{Forward}
use Rattle.load_core.specs.declared.state.Forward.TheVariants.{Absent, Pending, Kept}
use Rattle.load_core.specs.declared.state.State.{State}

-- A text: the bytes of a table of rules.
abbrev pub Text : Type 0
Text = List ℕ

-- The text of each generation, if the table has its chains, and where the base chain continues.
pub record Table : Type 0 where
  pub forward : Forward
  pub a : Option Text
  pub b : Option Text

abbrev pub no_table : Table
no_table = record { forward = Absent; a = None; b = None }

-- The text whose chains the table has as a generation.
abbrev pub chains : Table → Generation → Option Text
chains table A = table.a
chains table B = table.b

abbrev pub with_text : Generation → Option Text → Table → Table
with_text A text table = record table { a = text }
with_text B text table = record table { b = text }

-- The table after an order; `text` is the text that is loaded.
abbrev pub table_after : (text : Text) → Order → Table → Table
table_after text (Write g) table = with_text g (Some text) table
table_after text (Switch g) table = record table { forward = Pending g }
table_after text (Keep g) table = record table { forward = Kept g }
table_after text (Erase g) table = with_text g None table
table_after text Remove table = no_table

-- The table after orders.
abbrev pub table_after_all : (text : Text) → List Order → Table → Table
table_after_all text [] table = table
table_after_all text (order ∷ orders) table = table_after_all text orders (table_after text order table)

-- What a caller reads of the table.
abbrev pub state_of : Table → State
state_of table = record { forward = table.forward; has_a = is_some table.a; has_b = is_some table.b }
