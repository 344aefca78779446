-- Operations on two sets of which one is empty or has every packet, or that are one set.
use Rattle.std.proofs.Common.{◌≡◌, ℕ, Bool, true, false, List, refl, ap, ◌∙◌}
use Rattle.std.specs.Prelude.{not, ◌&&◌, ◌||◌}
use Rattle.host_net.specs.declared.packet.Packet.{Packet}
use Rattle.packet_set.specs.declared.node.Node.{Node}
use Rattle.packet_set.specs.Nodes.{has}
use Rattle.packet_set.proofs.HasLaws.{has_empty, has_every}

is_empty : (nodes : List Node) (set : ℕ) (p : Packet) → set ≡ 0 → has nodes set p ≡ false
is_empty nodes set p is = ap (λ (n : ℕ). has nodes n p) is ∙ has_empty nodes p

is_every : (nodes : List Node) (set : ℕ) (p : Packet) → set ≡ 1 → has nodes set p ≡ true
is_every nodes set p is = ap (λ (n : ℕ). has nodes n p) is ∙ has_every nodes p

or_right : (x : Bool) → x ≡ (x || false)
or_right true = refl
or_right false = refl

or_all : (x : Bool) → true ≡ (x || true)
or_all true = refl
or_all false = refl

or_self : (x : Bool) → x ≡ (x || x)
or_self true = refl
or_self false = refl

and_right : (x : Bool) → x ≡ (x && true)
and_right true = refl
and_right false = refl

and_none : (x : Bool) → false ≡ (x && false)
and_none true = refl
and_none false = refl

and_self : (x : Bool) → x ≡ (x && x)
and_self true = refl
and_self false = refl

less_self : (x : Bool) → false ≡ (x && not x)
less_self true = refl
less_self false = refl

module _ (nodes : List Node) (p : Packet) (left right : ℕ) where
  pub or_empty_left : left ≡ 0 → has nodes right p ≡ (has nodes left p || has nodes right p)
  or_empty_left is = rw (is_empty nodes left p is) refl

  pub or_empty_right : right ≡ 0 → has nodes left p ≡ (has nodes left p || has nodes right p)
  or_empty_right is = rw (is_empty nodes right p is) (or_right (has nodes left p))

  pub or_every_left : left ≡ 1 → has nodes 1 p ≡ (has nodes left p || has nodes right p)
  or_every_left is = rw (is_every nodes left p is) (has_every nodes p)

  pub or_every_right : right ≡ 1 → has nodes 1 p ≡ (has nodes left p || has nodes right p)
  or_every_right is = rw (is_every nodes right p is) (has_every nodes p ∙ or_all (has nodes left p))

  pub or_same : left ≡ right → has nodes left p ≡ (has nodes left p || has nodes right p)
  or_same is = or_self (has nodes left p) ∙ ap (λ (n : ℕ). has nodes left p || has nodes n p) is

  pub and_empty_left : left ≡ 0 → has nodes 0 p ≡ (has nodes left p && has nodes right p)
  and_empty_left is = rw (is_empty nodes left p is) (has_empty nodes p)

  pub and_empty_right : right ≡ 0 → has nodes 0 p ≡ (has nodes left p && has nodes right p)
  and_empty_right is = rw (is_empty nodes right p is) (has_empty nodes p ∙ and_none (has nodes left p))

  pub and_every_left : left ≡ 1 → has nodes right p ≡ (has nodes left p && has nodes right p)
  and_every_left is = rw (is_every nodes left p is) refl

  pub and_every_right : right ≡ 1 → has nodes left p ≡ (has nodes left p && has nodes right p)
  and_every_right is = rw (is_every nodes right p is) (and_right (has nodes left p))

  pub and_same : left ≡ right → has nodes left p ≡ (has nodes left p && has nodes right p)
  and_same is = and_self (has nodes left p) ∙ ap (λ (n : ℕ). has nodes left p && has nodes n p) is

  pub less_empty_left : left ≡ 0 → has nodes 0 p ≡ (has nodes left p && not (has nodes right p))
  less_empty_left is = rw (is_empty nodes left p is) (has_empty nodes p)

  pub less_every : right ≡ 1 → has nodes 0 p ≡ (has nodes left p && not (has nodes right p))
  less_every is = rw (is_every nodes right p is) (has_empty nodes p ∙ and_none (has nodes left p))

  pub less_empty_right : right ≡ 0 → has nodes left p ≡ (has nodes left p && not (has nodes right p))
  less_empty_right is = rw (is_empty nodes right p is) (and_right (has nodes left p))

  pub less_same : left ≡ right → has nodes 0 p ≡ (has nodes left p && not (has nodes right p))
  less_same is = has_empty nodes p ∙ (less_self (has nodes left p) ∙ ap (λ (n : ℕ). has nodes left p && not (has nodes n p)) is)
