-- Every history leaves the confirmed text or the last load in force, and every event leads from there to where it has to lead.
use Rattle.std.proofs.Common.{◌≡◌, ℕ, zero, suc, List, [], ◌∷◌, Option, None, Some, Ok, refl, sym, subst, ap, ◌∙◌, take}
use Rattle.std.specs.Prelude.{Result, OnOk}
use Rattle.load_core.specs.Orders.{orders_of}
use Rattle.load_core.specs.Table.{Table, Text, state_of, table_after_all}
use Rattle.load_core.specs.History.{History, confirmed_by, given_orders, last_confirmed, last_load, loaded_by, table_of}
use Rattle.load_core.specs.Promises.{IsInForce, IsOneOfTwo, LeadsTo, RemovesNothingConfirmed}
use Rattle.load_core.specs.declared.event.Event.{Event}
use Rattle.load_core.specs.declared.event.Event.TheVariants as event
use Rattle.load_core.specs.declared.order.Order.{Order}
use Rattle.load_core.specs.declared.order.Refusal.{Refusal}
use Rattle.load_core.specs.declared.state.Generation.TheVariants.{A, B}
use Rattle.load_core.specs.declared.state.Forward.{Forward}
use Rattle.load_core.specs.declared.state.Forward.TheVariants.{Absent, Pending, Kept}
use Rattle.load_core.specs.declared.state.State.{State}

-- ---- what holds after each prefix of some orders

abbrev AtEach : (List Order → Type 0) → List Order → Type 0
AtEach P [] = P []
AtEach P (order ∷ orders) = P [] × AtEach (λ rest. P (order ∷ rest)) orders

at_prefix : (P : List Order → Type 0) (orders : List Order) → AtEach P orders → (n : ℕ) → P (take n orders)
at_prefix P [] each zero = each
at_prefix P [] each (suc n) = each
at_prefix P (order ∷ orders) each zero = each.0
at_prefix P (order ∷ orders) each (suc n) = at_prefix (λ rest. P (order ∷ rest)) orders each.1 n

-- ---- one event

-- What is in force after an event of which these orders were run.
abbrev InForceAfter : Event → Text → Table → (load confirmed : Option Text) → List Order → Type 0
InForceAfter event text table load confirmed run =
    IsInForce (table_after_all text run table).forward (table_after_all text run table) (loaded_by event text run load)
    (confirmed_by event text run load confirmed)

-- After any number of the orders of an event something sound is in force, and after all of them the event has led to its end.
record Fares (event : Event) (text : Text) (table : Table) (load confirmed : Option Text) : Type 0 where
  pub each : AtEach (InForceAfter event text table load confirmed) (given_orders (orders_of event (state_of table)))
  pub ends : OnOk (orders_of event (state_of table)) (LeadsTo event text load confirmed (table_after_all text (given_orders (orders_of event (state_of table))) table))
  pub removes : OnOk (orders_of event (state_of table)) (RemovesNothingConfirmed event confirmed (given_orders (orders_of event (state_of table))))

absent : (event : Event) (text : Text) (load : Option Text) (a b : Option Text)
    → Fares event text (record { forward = Absent; a = a; b = b }) load None
absent event.Load text load None None = record { each = (refl, (refl, (refl, refl, refl))); ends = record { generation = A; pending = refl; in_force = refl; beside = refl }; removes = λ _. refl }
absent event.Load text load (Some x) b = record { each = (refl, (refl, (refl, (refl, refl, refl)))); ends = record { generation = A; pending = refl; in_force = refl; beside = refl }; removes = λ _. refl }
absent event.Load text load None (Some y) = record { each = (refl, (refl, (refl, (refl, refl, refl)))); ends = record { generation = A; pending = refl; in_force = refl; beside = refl }; removes = λ _. refl }
absent event.Now text load None None = record { each = (refl, (refl, ((refl, refl, refl), (refl, refl)))); ends = record { generation = A; kept = refl; in_force = refl; alone = refl }; removes = λ _. refl }
absent event.Now text load (Some x) b = record { each = (refl, (refl, (refl, ((refl, refl, refl), (refl, refl))))); ends = record { generation = A; kept = refl; in_force = refl; alone = refl }; removes = λ _. refl }
absent event.Now text load None (Some y) = record { each = (refl, (refl, (refl, ((refl, refl, refl), (refl, refl))))); ends = record { generation = A; kept = refl; in_force = refl; alone = refl }; removes = λ _. refl }
absent event.Confirm text load None None = record { each = refl; ends = tt; removes = tt }
absent event.Confirm text load (Some x) b = record { each = refl; ends = tt; removes = tt }
absent event.Confirm text load None (Some y) = record { each = refl; ends = tt; removes = tt }
absent event.Back text load None None = record { each = refl; ends = refl; removes = λ _. refl }
absent event.Back text load (Some x) b = record { each = (refl, refl); ends = refl; removes = λ _. refl }
absent event.Back text load None (Some y) = record { each = (refl, refl); ends = refl; removes = λ _. refl }
absent event.Remove text load None None = record { each = refl; ends = tt; removes = tt }
absent event.Remove text load (Some x) b = record { each = (refl, refl); ends = refl; removes = tt }
absent event.Remove text load None (Some y) = record { each = (refl, refl); ends = refl; removes = tt }

pending_a : (event : Event) (text x : Text) (beside : Option Text)
    → Fares event text (record { forward = Pending A; a = Some x; b = beside }) (Some x) beside
pending_a event.Load text x None = record { each = ((refl, refl, refl), (refl, (refl, (refl, refl, refl)))); ends = record { generation = A; pending = refl; in_force = refl; beside = refl }; removes = λ _. refl }
pending_a event.Load text x (Some y) = record { each = ((refl, refl, refl), ((refl, refl), ((refl, refl), ((refl, refl), (refl, refl, refl))))); ends = record { generation = A; pending = refl; in_force = refl; beside = refl }; removes = λ never. cc }
pending_a event.Now text x None = record { each = ((refl, refl, refl), (refl, (refl, ((refl, refl, refl), (refl, refl))))); ends = record { generation = A; kept = refl; in_force = refl; alone = refl }; removes = λ _. refl }
pending_a event.Now text x (Some y) = record { each = ((refl, refl, refl), ((refl, refl), ((refl, refl), ((refl, refl), ((refl, refl, refl), ((refl, refl), (refl, refl))))))); ends = record { generation = A; kept = refl; in_force = refl; alone = refl }; removes = λ never. cc }
pending_a event.Confirm text x None = record { each = ((refl, refl, refl), (refl, refl)); ends = (x, refl, record { generation = A; kept = refl; in_force = refl; alone = refl }); removes = λ never. cc }
pending_a event.Confirm text x (Some y) = record { each = ((refl, refl, refl), ((refl, refl), (refl, refl))); ends = (x, refl, record { generation = A; kept = refl; in_force = refl; alone = refl }); removes = λ never. cc }
pending_a event.Back text x None = record { each = ((refl, refl, refl), refl); ends = refl; removes = λ _. refl }
pending_a event.Back text x (Some y) = record { each = ((refl, refl, refl), ((refl, refl), (refl, refl))); ends = record { generation = B; kept = refl; in_force = refl; alone = refl }; removes = λ never. cc }
pending_a event.Remove text x None = record { each = ((refl, refl, refl), refl); ends = refl; removes = tt }
pending_a event.Remove text x (Some y) = record { each = ((refl, refl, refl), refl); ends = refl; removes = tt }

pending_b : (event : Event) (text x : Text) (beside : Option Text)
    → Fares event text (record { forward = Pending B; a = beside; b = Some x }) (Some x) beside
pending_b event.Load text x None = record { each = ((refl, refl, refl), (refl, (refl, (refl, refl, refl)))); ends = record { generation = A; pending = refl; in_force = refl; beside = refl }; removes = λ _. refl }
pending_b event.Load text x (Some y) = record { each = ((refl, refl, refl), ((refl, refl), ((refl, refl), ((refl, refl), (refl, refl, refl))))); ends = record { generation = B; pending = refl; in_force = refl; beside = refl }; removes = λ never. cc }
pending_b event.Now text x None = record { each = ((refl, refl, refl), (refl, (refl, ((refl, refl, refl), (refl, refl))))); ends = record { generation = A; kept = refl; in_force = refl; alone = refl }; removes = λ _. refl }
pending_b event.Now text x (Some y) = record { each = ((refl, refl, refl), ((refl, refl), ((refl, refl), ((refl, refl), ((refl, refl, refl), ((refl, refl), (refl, refl))))))); ends = record { generation = B; kept = refl; in_force = refl; alone = refl }; removes = λ never. cc }
pending_b event.Confirm text x None = record { each = ((refl, refl, refl), (refl, refl)); ends = (x, refl, record { generation = B; kept = refl; in_force = refl; alone = refl }); removes = λ never. cc }
pending_b event.Confirm text x (Some y) = record { each = ((refl, refl, refl), ((refl, refl), (refl, refl))); ends = (x, refl, record { generation = B; kept = refl; in_force = refl; alone = refl }); removes = λ never. cc }
pending_b event.Back text x None = record { each = ((refl, refl, refl), refl); ends = refl; removes = λ _. refl }
pending_b event.Back text x (Some y) = record { each = ((refl, refl, refl), ((refl, refl), (refl, refl))); ends = record { generation = A; kept = refl; in_force = refl; alone = refl }; removes = λ never. cc }
pending_b event.Remove text x None = record { each = ((refl, refl, refl), refl); ends = refl; removes = tt }
pending_b event.Remove text x (Some y) = record { each = ((refl, refl, refl), refl); ends = refl; removes = tt }

kept_a : (event : Event) (text x : Text) (load left : Option Text)
    → Fares event text (record { forward = Kept A; a = Some x; b = left }) load (Some x)
kept_a event.Load text x load None = record { each = ((refl, refl), ((refl, refl), (refl, refl, refl))); ends = record { generation = B; pending = refl; in_force = refl; beside = refl }; removes = λ never. cc }
kept_a event.Load text x load (Some y) = record { each = ((refl, refl), ((refl, refl), ((refl, refl), (refl, refl, refl)))); ends = record { generation = B; pending = refl; in_force = refl; beside = refl }; removes = λ never. cc }
kept_a event.Now text x load None = record { each = ((refl, refl), ((refl, refl), ((refl, refl, refl), ((refl, refl), (refl, refl))))); ends = record { generation = B; kept = refl; in_force = refl; alone = refl }; removes = λ never. cc }
kept_a event.Now text x load (Some y) = record { each = ((refl, refl), ((refl, refl), ((refl, refl), ((refl, refl, refl), ((refl, refl), (refl, refl)))))); ends = record { generation = B; kept = refl; in_force = refl; alone = refl }; removes = λ never. cc }
kept_a event.Confirm text x load None = record { each = (refl, refl); ends = tt; removes = tt }
kept_a event.Confirm text x load (Some y) = record { each = (refl, refl); ends = tt; removes = tt }
kept_a event.Back text x load None = record { each = (refl, refl); ends = record { generation = A; kept = refl; in_force = refl; alone = refl }; removes = λ never. cc }
kept_a event.Back text x load (Some y) = record { each = ((refl, refl), (refl, refl)); ends = record { generation = A; kept = refl; in_force = refl; alone = refl }; removes = λ never. cc }
kept_a event.Remove text x load None = record { each = ((refl, refl), refl); ends = refl; removes = tt }
kept_a event.Remove text x load (Some y) = record { each = ((refl, refl), refl); ends = refl; removes = tt }

kept_b : (event : Event) (text x : Text) (load left : Option Text)
    → Fares event text (record { forward = Kept B; a = left; b = Some x }) load (Some x)
kept_b event.Load text x load None = record { each = ((refl, refl), ((refl, refl), (refl, refl, refl))); ends = record { generation = A; pending = refl; in_force = refl; beside = refl }; removes = λ never. cc }
kept_b event.Load text x load (Some y) = record { each = ((refl, refl), ((refl, refl), ((refl, refl), (refl, refl, refl)))); ends = record { generation = A; pending = refl; in_force = refl; beside = refl }; removes = λ never. cc }
kept_b event.Now text x load None = record { each = ((refl, refl), ((refl, refl), ((refl, refl, refl), ((refl, refl), (refl, refl))))); ends = record { generation = A; kept = refl; in_force = refl; alone = refl }; removes = λ never. cc }
kept_b event.Now text x load (Some y) = record { each = ((refl, refl), ((refl, refl), ((refl, refl), ((refl, refl, refl), ((refl, refl), (refl, refl)))))); ends = record { generation = A; kept = refl; in_force = refl; alone = refl }; removes = λ never. cc }
kept_b event.Confirm text x load None = record { each = (refl, refl); ends = tt; removes = tt }
kept_b event.Confirm text x load (Some y) = record { each = (refl, refl); ends = tt; removes = tt }
kept_b event.Back text x load None = record { each = (refl, refl); ends = record { generation = B; kept = refl; in_force = refl; alone = refl }; removes = λ never. cc }
kept_b event.Back text x load (Some y) = record { each = ((refl, refl), (refl, refl)); ends = record { generation = B; kept = refl; in_force = refl; alone = refl }; removes = λ never. cc }
kept_b event.Remove text x load None = record { each = ((refl, refl), refl); ends = refl; removes = tt }
kept_b event.Remove text x load (Some y) = record { each = ((refl, refl), refl); ends = refl; removes = tt }

-- From each table in which something sound is in force.
fares : (event : Event) (text : Text) (forward : Forward) (a b load confirmed : Option Text)
    → IsInForce forward (record { forward = forward; a = a; b = b }) load confirmed
    → Fares event text (record { forward = forward; a = a; b = b }) load confirmed
fares event text Absent a b load confirmed is =
    subst (λ (c : Option Text). Fares event text (record { forward = Absent; a = a; b = b }) load c) (sym is) (absent event text load a b)
fares event text (Pending A) (Some x) beside load confirmed is =
    let T : Table = record { forward = Pending A; a = Some x; b = beside } in
    subst (λ (l : Option Text). Fares event text T l confirmed) is.1
    (subst (λ (c : Option Text). Fares event text T (Some x) c) is.2 (pending_a event text x beside))
fares event text (Pending A) None beside load confirmed is = let never = is.0 in cc
fares event text (Pending B) beside (Some x) load confirmed is =
    let T : Table = record { forward = Pending B; a = beside; b = Some x } in
    subst (λ (l : Option Text). Fares event text T l confirmed) is.1
    (subst (λ (c : Option Text). Fares event text T (Some x) c) is.2 (pending_b event text x beside))
fares event text (Pending B) beside None load confirmed is = let never = is.0 in cc
fares event text (Kept A) (Some x) left load confirmed is =
    let T : Table = record { forward = Kept A; a = Some x; b = left } in
    subst (λ (c : Option Text). Fares event text T load c) is.1 (kept_a event text x load left)
fares event text (Kept A) None left load confirmed is = let never = is.0 in cc
fares event text (Kept B) left (Some x) load confirmed is =
    let T : Table = record { forward = Kept B; a = left; b = Some x } in
    subst (λ (c : Option Text). Fares event text T load c) is.1 (kept_b event text x load left)
fares event text (Kept B) left None load confirmed is = let never = is.0 in cc

fares_from : (event : Event) (text : Text) (table : Table) (load confirmed : Option Text) → IsInForce table.forward table load confirmed
    → Fares event text table load confirmed
fares_from event text table load confirmed is = fares event text table.forward table.a table.b load confirmed is

-- ---- histories

pub one_of_two : (history : History) → IsOneOfTwo history
one_of_two [] = refl
one_of_two (begun ∷ before) =
    at_prefix (InForceAfter begun.event begun.text (table_of before) (last_load before) (last_confirmed before))
    (given_orders (orders_of begun.event (state_of (table_of before))))
    (fares_from begun.event begun.text (table_of before) (last_load before) (last_confirmed before) (one_of_two before)).each begun.run

fares_after : (event : Event) (text : Text) (history : History)
    → Fares event text (table_of history) (last_load history) (last_confirmed history)
fares_after event text history =
    fares_from event text (table_of history) (last_load history) (last_confirmed history) (one_of_two history)

-- The orders in the state of a table are those of the state that was read.
orders_are : (event : Event) (table : Table) (state : State) (orders : List Order) → state_of table ≡ state → Ok orders ≡ orders_of event state
    → orders_of event (state_of table) ≡ Ok orders
orders_are event table state orders read exact = ap (orders_of event) read ∙ sym exact

pub leads : (event : Event) (text : Text) (history : History) (state : State) (orders : List Order) → state_of (table_of history) ≡ state
    → Ok orders ≡ orders_of event state
    → LeadsTo event text (last_load history) (last_confirmed history) (table_after_all text orders (table_of history))
leads event text history state orders read exact =
    subst (λ (r : Result (List Order) Refusal). OnOk r (LeadsTo event text (last_load history) (last_confirmed history) (table_after_all text (given_orders r) (table_of history))))
    (orders_are event (table_of history) state orders read exact) (fares_after event text history).ends

pub removes : (event : Event) (history : History) (state : State) (orders : List Order) → state_of (table_of history) ≡ state
    → Ok orders ≡ orders_of event state
    → RemovesNothingConfirmed event (last_confirmed history) orders
removes event history state orders read exact =
    subst (λ (r : Result (List Order) Refusal). OnOk r (RemovesNothingConfirmed event (last_confirmed history) (given_orders r)))
    (orders_are event (table_of history) state orders read exact) (fares_after event [] history).removes
