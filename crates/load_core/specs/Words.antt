-- The words and lines of `topos-step EVENT ACTIVE CHAINS`.
use Rattle.std.specs.Prelude.{◌≡◌, ℕ, Bool, true, false, IsTrue, List, [], ◌∷◌, codes}
use Rattle.std.specs.List.{flat_map}
use Rattle.load_core.specs.Orders.{is_sound}
use Rattle.load_core.specs.declared.event.Event.{Event}
use Rattle.load_core.specs.declared.event.Event.TheVariants.{Load, Now, Confirm, Back}
use Rattle.load_core.specs.declared.event.Event.TheVariants as event
use Rattle.load_core.specs.declared.order.Order.{Order}
use Rattle.load_core.specs.declared.order.Order.TheVariants.{Write, Switch, Keep, Erase}
use Rattle.load_core.specs.declared.order.Order.TheVariants as order
use Rattle.load_core.specs.declared.order.Refusal.{Refusal}
use Rattle.load_core.specs.declared.order.Refusal.TheVariants.{NothingPending, NoTable}
use Rattle.load_core.specs.declared.state.Generation.TheVariants.{A, B}
use Rattle.load_core.specs.declared.state.Forward.{Forward}
use Rattle.load_core.specs.declared.state.Forward.TheVariants.{Absent, Pending, Kept}
use Rattle.load_core.specs.declared.state.State.{State}

-- ---- the command line

-- An event, and the state in which it comes.
pub record Request : Type 0 where
  pub event : Event
  pub state : State

abbrev pub event_word : Event → List ℕ
event_word Load = codes "load"
event_word Now = codes "now"
event_word Confirm = codes "confirm"
event_word Back = codes "back"
event_word event.Remove = codes "remove"

-- The word for the generation in which `forward` continues, and whether it is confirmed.
abbrev pub forward_word : Forward → List ℕ
forward_word Absent = codes "none"
forward_word (Kept A) = codes "a-kept"
forward_word (Pending A) = codes "a-pending"
forward_word (Kept B) = codes "b-kept"
forward_word (Pending B) = codes "b-pending"

-- The word for the generations that have chains.
abbrev pub chains_word : (has_a has_b : Bool) → List ℕ
chains_word false false = codes "none"
chains_word true false = codes "a"
chains_word false true = codes "b"
chains_word true true = codes "ab"

abbrev pub arguments_of : Request → List (List ℕ)
arguments_of request =
    event_word request.event
    ∷ forward_word request.state.forward
    ∷ chains_word request.state.has_a request.state.has_b
    ∷ []

-- The words are the request, in a state that a table may have.
abbrev pub IsRequest : List (List ℕ) → Request → Type 0
IsRequest words request = (words ≡ arguments_of request) × IsTrue (is_sound request.state)

-- The words are no request.
abbrev pub IsNoRequest : List (List ℕ) → Type 0
IsNoRequest words = (request : Request) → IsRequest words request → ⊥

unfoldable pub usage_text : List ℕ
usage_text = codes "usage: topos-step load|now|confirm|back|remove none|a-kept|a-pending|b-kept|b-pending none|a|b|ab\n"

-- ---- the lines

abbrev pub order_line : Order → List ℕ
order_line (Write A) = codes "write a\n"
order_line (Write B) = codes "write b\n"
order_line (Switch A) = codes "switch a\n"
order_line (Switch B) = codes "switch b\n"
order_line (Keep A) = codes "keep a\n"
order_line (Keep B) = codes "keep b\n"
order_line (Erase A) = codes "erase a\n"
order_line (Erase B) = codes "erase b\n"
order_line order.Remove = codes "remove\n"

-- Orders, one a line.
abbrev pub lines_of : List Order → List ℕ
lines_of orders = flat_map order_line orders

abbrev pub refusal_line : Refusal → List ℕ
refusal_line NothingPending = codes "topos-step: nothing is pending\n"
refusal_line NoTable = codes "topos-step: there is no table\n"
