-- Results of the code as the definitions have them.
use Rattle.std.specs.Prelude.{Result, Ok, Err, List}
use Rattle.arrayvec.specs.ArrayVec.{ArrayVec}
use Rattle.load_core.specs.declared.order.Order.{Order}
use Rattle.load_core.specs.declared.order.Refusal.{Refusal}

-- The orders of a result, in order.
abbrev pub orders_view : Result (ArrayVec Order) Refusal → Result (List Order) Refusal
orders_view (Ok orders) = Ok orders.items
orders_view (Err why) = Err why
