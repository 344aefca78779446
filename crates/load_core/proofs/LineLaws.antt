-- The lines of orders that are written one after another.
use Rattle.std.proofs.Common.{◌≡◌, ℕ, ◌+◌, ◌<◌, List, ◌∷◌, ◌++◌, sym, ap, ◌∙◌, get_or, length, take, drop, add-one, take-append-drop, drop-cons}
use Rattle.std.proofs.lemmas.Grind.{flat_map-append}
use Rattle.load_core.specs.Words.{lines_of, order_line}
use Rattle.load_core.specs.declared.order.Order.{Order}

-- The lines before an order, its own, and those after it.
pub lines_at : (orders : List Order) (i : ℕ) (d : Order) (line : List ℕ) → line ≡ order_line (get_or orders i d) → i < length orders
    → lines_of orders ≡ lines_of (take i orders) ++ (line ++ lines_of (drop (i + 1) orders))
lines_at orders i d line is inside =
    let next : drop i orders ≡ get_or orders i d ∷ drop (i + 1) orders = rw add-one (drop-cons orders i d inside) in
    ap lines_of (sym (take-append-drop i orders))
    ∙ flat_map-append order_line (take i orders) (drop i orders)
    ∙ ap (λ rest. lines_of (take i orders) ++ lines_of rest) next
    ∙ ap (λ (own : List ℕ). lines_of (take i orders) ++ (own ++ lines_of (drop (i + 1) orders))) (sym is)
