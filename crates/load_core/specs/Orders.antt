-- The orders of an event, by the state of the table `ip topos` in which it comes. A state says which generations have chains, and where
-- the base chain `forward` continues.
use Rattle.std.specs.Prelude.{Bool, true, false, ◌||◌, if◌then◌else◌, Result, Ok, Err, List, [], ◌∷◌, ◌++◌}
use Rattle.load_core.specs.declared.event.Event.{Event}
use Rattle.load_core.specs.declared.event.Event.TheVariants as event
use Rattle.load_core.specs.declared.order.Order.{Order}
use Rattle.load_core.specs.declared.order.Order.TheVariants.{Write, Switch, Keep, Erase, Remove}
use Rattle.load_core.specs.declared.order.Refusal.{Refusal}
use Rattle.load_core.specs.declared.order.Refusal.TheVariants.{NothingPending, NoTable}
use Rattle.load_core.specs.declared.state.Generation.{Generation}
use Rattle.load_core.specs.declared.state.Generation.TheVariants.{A, B}
use Rattle.load_core.specs.declared.state.Forward.{Forward}
use Rattle.load_core.specs.declared.state.Forward.TheVariants.{Absent, Pending, Kept}
use Rattle.load_core.specs.declared.state.State.{State}

-- The other generation.
abbrev pub other : Generation → Generation
other A = B
other B = A

-- The table has chains of the generation.
abbrev pub has : State → Generation → Bool
has state A = state.has_a
has state B = state.has_b

-- There is a table.
abbrev pub has_table : State → Bool
has_table state = state.has_a || state.has_b

-- `forward` continues in chains that the table has, if there is a base chain. Each state of a table is of this kind.
abbrev pub continues : Forward → State → Bool
continues Absent state = true
continues (Pending g) state = has state g
continues (Kept g) state = has state g

abbrev pub is_sound : State → Bool
is_sound state = continues state.forward state

-- The state with or without chains of a generation.
abbrev pub with_chains : Generation → Bool → State → State
with_chains A there state = record state { has_a = there }
with_chains B there state = record state { has_b = there }

-- The state after an order.
abbrev pub state_after : Order → State → State
state_after (Write g) state = with_chains g true state
state_after (Switch g) state = record state { forward = Pending g }
state_after (Keep g) state = record state { forward = Kept g }
state_after (Erase g) state = with_chains g false state
state_after Remove state = record { forward = Absent; has_a = false; has_b = false }

-- The state after orders.
abbrev pub state_after_all : List Order → State → State
state_after_all [] state = state
state_after_all (order ∷ orders) state = state_after_all orders (state_after order state)

-- The way back. A pending text makes way for the text beside it, or for no table if there is none. What an interrupted event left beside a
-- kept text, or without a base chain, goes.
abbrev pub way_back_from : Forward → State → List Order
way_back_from Absent state = if has_table state then Remove ∷ [] else []
way_back_from (Pending g) state = if has state (other g) then Keep (other g) ∷ Erase g ∷ [] else Remove ∷ []
way_back_from (Kept g) state = if has state (other g) then Erase (other g) ∷ [] else []

abbrev pub way_back : State → List Order
way_back state = way_back_from state.forward state

-- The generation that a load writes: the one in which `forward` does not continue.
abbrev pub free_generation : Forward → Generation
free_generation Absent = A
free_generation (Pending g) = other g
free_generation (Kept g) = other g

-- A new text comes into force, pending.
abbrev pub start : State → List Order
start state = let free = free_generation state.forward in Write free ∷ Switch free ∷ []

-- The pending text is kept, and the text beside it goes.
abbrev pub confirmation_from : Forward → State → List Order
confirmation_from (Pending g) state = Keep g ∷ (if has state (other g) then Erase (other g) ∷ [] else [])
confirmation_from _ state = []

abbrev pub confirmation : State → List Order
confirmation state = confirmation_from state.forward state

-- Parts of an event, each with its orders in the state that those before leave.
abbrev pub in_turn : List (State → List Order) → State → List Order
in_turn [] state = []
in_turn (part ∷ parts) state = part state ++ in_turn parts (state_after_all (part state) state)

abbrev pub is_pending : Forward → Bool
is_pending (Pending g) = true
is_pending _ = false

-- The orders of an event, or why it is refused.
abbrev pub orders_of : Event → State → Result (List Order) Refusal
orders_of event.Load state = Ok (in_turn (way_back ∷ start ∷ []) state)
orders_of event.Now state = Ok (in_turn (way_back ∷ start ∷ confirmation ∷ []) state)
orders_of event.Confirm state = if is_pending state.forward then Ok (confirmation state) else Err NothingPending
orders_of event.Back state = Ok (way_back state)
orders_of event.Remove state = if has_table state then Ok (Remove ∷ []) else Err NoTable
