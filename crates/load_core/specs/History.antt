-- What has happened to the table: events, each with the number of its orders that were run before its caller ended.
use Rattle.std.specs.Prelude.{ℕ, Bool, true, false, ◌||◌, if◌then◌else◌, Option, None, Some, Result, Ok, Err, List, [], ◌∷◌, take}
use Rattle.std.specs.List.{list_any}
use Rattle.load_core.specs.Orders.{orders_of}
use Rattle.load_core.specs.Table.{Text, Table, no_table, state_of, table_after_all}
use Rattle.load_core.specs.declared.event.Event.{Event}
use Rattle.load_core.specs.declared.event.Event.TheVariants as event
use Rattle.load_core.specs.declared.order.Order.{Order}
use Rattle.load_core.specs.declared.order.Order.TheVariants.{Switch, Keep, Remove}
use Rattle.load_core.specs.declared.order.Refusal.{Refusal}

-- An event that was begun. `text` is what it loads, if it is a load; `run` is the number of its orders that were run, so all of them if it
-- has no more.
pub record BegunEvent : Type 0 where
  pub event : Event
  pub text : Text
  pub run : ℕ

-- The events since there was no table, the last one first.
abbrev pub History : Type 0
History = List BegunEvent

-- The orders of a result; a refused event has none.
abbrev pub given_orders : Result (List Order) Refusal → List Order
given_orders (Ok orders) = orders
given_orders (Err why) = []

-- The orders of an event that were run on the table.
abbrev pub run_on : BegunEvent → Table → List Order
run_on begun table = take begun.run (given_orders (orders_of begun.event (state_of table)))

-- The table after a history.
abbrev pub table_of : History → Table
table_of [] = no_table
table_of (begun ∷ before) = table_after_all begun.text (run_on begun (table_of before)) (table_of before)

abbrev pub is_switch : Order → Bool
is_switch (Switch g) = true
is_switch _ = false

abbrev pub is_keep : Order → Bool
is_keep (Keep g) = true
is_keep _ = false

abbrev pub is_remove : Order → Bool
is_remove Remove = true
is_remove _ = false

-- A `keep` comes after a `switch`.
abbrev pub keeps_after_switch : List Order → Bool
keeps_after_switch [] = false
keeps_after_switch (order ∷ orders) = (if is_switch order then list_any is_keep orders else false) || keeps_after_switch orders

-- The text of the last load after an event of which these orders were run: a load counts once `forward` was switched to its text.
abbrev pub loaded_by : Event → Text → List Order → (before : Option Text) → Option Text
loaded_by event.Load text run before = if list_any is_switch run then Some text else before
loaded_by event.Now text run before = if list_any is_switch run then Some text else before
loaded_by _ text run before = before

-- The text of the last load of a history.
abbrev pub last_load : History → Option Text
last_load [] = None
last_load (begun ∷ before) = loaded_by begun.event begun.text (run_on begun (table_of before)) (last_load before)

-- The text confirmed last after an event of which these orders were run; `load` is that of the last load before. A user confirms the last
-- load by `confirm` once `keep` was run, and the text of a `now` once its `keep` was run behind its `switch`. Once a user has removed the
-- table nothing is confirmed.
abbrev pub confirmed_by : Event → Text → List Order → (load before : Option Text) → Option Text
confirmed_by event.Load text run load before = before
confirmed_by event.Now text run load before = if keeps_after_switch run then Some text else before
confirmed_by event.Confirm text run load before = if list_any is_keep run then load else before
confirmed_by event.Back text run load before = before
confirmed_by event.Remove text run load before = if list_any is_remove run then None else before

-- The text that was confirmed last in a history.
abbrev pub last_confirmed : History → Option Text
last_confirmed [] = None
last_confirmed (begun ∷ before) =
    confirmed_by begun.event begun.text (run_on begun (table_of before)) (last_load before) (last_confirmed before)
