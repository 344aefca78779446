-- What holds of the table after every history, and where every event leads.
use Rattle.std.specs.Prelude.{◌≡◌, ◌≢◌, ◌⊎◌, Bool, true, false, IsTrue, Option, None, Some, is_some, List, [], ◌∷◌, ⊤}
use Rattle.std.specs.List.{list_any}
use Rattle.load_core.specs.Orders.{is_sound, other}
use Rattle.load_core.specs.Table.{Text, Table, chains, no_table, state_of, table_after}
use Rattle.load_core.specs.History.{History, is_remove, last_confirmed, last_load, table_of}
use Rattle.load_core.specs.declared.event.Event.{Event}
use Rattle.load_core.specs.declared.event.Event.TheVariants as event
use Rattle.load_core.specs.declared.order.Order.{Order}
use Rattle.load_core.specs.declared.order.Order.TheVariants.{Write, Switch, Keep, Erase, Remove}
use Rattle.load_core.specs.declared.state.Generation.{Generation}
use Rattle.load_core.specs.declared.state.Forward.{Forward}
use Rattle.load_core.specs.declared.state.Forward.TheVariants.{Absent, Pending, Kept}

-- What is in force, for the texts of the last load and of the last confirmation. Without a base chain nothing is confirmed. A pending text
-- is that of the last load, and the confirmed one stands beside it, if there is one. A kept text is the confirmed one.
abbrev pub IsInForce : Forward → Table → (load confirmed : Option Text) → Type 0
IsInForce Absent table load confirmed = confirmed ≡ None
IsInForce (Pending g) table load confirmed =
    IsTrue (is_some (chains table g)) × (chains table g ≡ load) × (chains table (other g) ≡ confirmed)
IsInForce (Kept g) table load confirmed = IsTrue (is_some (chains table g)) × (chains table g ≡ confirmed)

-- After the history a kept text is the confirmed one, and a pending one is that of the last load.
abbrev pub IsOneOfTwo : History → Type 0
IsOneOfTwo history = IsInForce (table_of history).forward (table_of history) (last_load history) (last_confirmed history)

-- `forward` continues in chains of the text, kept, and the table has no other chains.
pub record IsKeptAlone (text : Text) (table : Table) : Type 0 where
  pub generation : Generation
  pub kept : table.forward ≡ Kept generation
  pub in_force : chains table generation ≡ Some text
  pub alone : chains table (other generation) ≡ None

-- `forward` continues in chains of the text, pending, and beside them the table has those of the confirmed text, if there is one.
pub record IsPendingBeside (text : Text) (confirmed : Option Text) (table : Table) : Type 0 where
  pub generation : Generation
  pub pending : table.forward ≡ Pending generation
  pub in_force : chains table generation ≡ Some text
  pub beside : chains table (other generation) ≡ confirmed

-- The confirmed text is kept alone, or there is no table if nothing is confirmed.
abbrev pub RestsAt : Option Text → Table → Type 0
RestsAt None table = table ≡ no_table
RestsAt (Some text) table = IsKeptAlone text table

-- There is such a text, and it is kept alone.
abbrev pub KeepsAlone : Option Text → Table → Type 0
KeepsAlone load table = (text : Text) × (load ≡ Some text) × IsKeptAlone text table

-- Where an event leads whose orders were all run, whatever was interrupted before it. `load` is the text of the last load before the event,
-- and `confirmed` the one confirmed last.
abbrev pub LeadsTo : Event → Text → (load confirmed : Option Text) → Table → Type 0
LeadsTo event.Load text load confirmed table = IsPendingBeside text confirmed table
LeadsTo event.Now text load confirmed table = IsKeptAlone text table
LeadsTo event.Confirm text load confirmed table = KeepsAlone load table
LeadsTo event.Back text load confirmed table = RestsAt confirmed table
LeadsTo event.Remove text load confirmed table = table ≡ no_table

-- `forward` continues in chains that the table has.
abbrev pub IsSound : Table → Type 0
IsSound table = IsTrue (is_sound (state_of table))

abbrev pub is_there : Forward → Bool
is_there Absent = false
is_there _ = true

-- `forward` continues in the generation.
abbrev pub IsActive : Generation → Forward → Type 0
IsActive g forward = (forward ≡ Pending g) ⊎ (forward ≡ Kept g)

-- The order is possible: a generation is written where it has no chains, `forward` is led to chains that are there, and chains are erased
-- that are there and in which it does not continue.
abbrev pub IsPossible : Order → Table → Type 0
IsPossible (Write g) table = chains table g ≡ None
IsPossible (Switch g) table = IsTrue (is_some (chains table g))
IsPossible (Keep g) table = IsTrue (is_some (chains table g))
IsPossible (Erase g) table = IsTrue (is_some (chains table g)) × (IsActive g table.forward → ⊥)
IsPossible Remove table = IsTrue (is_some table.a) ⊎ IsTrue (is_some table.b)

-- Each order is possible in its turn. After it `forward` continues in chains that are there, and only `remove` takes `forward` away.
abbrev pub ArePossible : Text → List Order → Table → Type 0
ArePossible text [] table = ⊤
ArePossible text (order ∷ orders) table =
    IsPossible order table
    × IsSound (table_after text order table)
    × (order ≢ Remove → IsTrue (is_there table.forward) → IsTrue (is_there (table_after text order table).forward))
    × ArePossible text orders (table_after text order table)

-- Only a user removes the table while a text is confirmed.
abbrev pub RemovesNothingConfirmed : Event → (confirmed : Option Text) → List Order → Type 0
RemovesNothingConfirmed event.Remove confirmed orders = ⊤
RemovesNothingConfirmed _ confirmed orders = IsTrue (list_any is_remove orders) → confirmed ≡ None

abbrev pub is_empty : List Order → Bool
is_empty [] = true
is_empty (order ∷ orders) = false

-- Nothing comes after a `remove`.
abbrev pub ends_at_remove : List Order → Bool
ends_at_remove [] = true
ends_at_remove (Remove ∷ orders) = is_empty orders
ends_at_remove (order ∷ orders) = ends_at_remove orders

-- Nothing comes after a `remove`, unless a text is loaded.
abbrev pub RemovesLast : Event → List Order → Type 0
RemovesLast event.Load orders = ⊤
RemovesLast event.Now orders = ⊤
RemovesLast _ orders = IsTrue (ends_at_remove orders)
