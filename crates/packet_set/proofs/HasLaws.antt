-- Laws of membership: a bound that is large enough, and nodes that are added.
use Rattle.std.proofs.Common.{◌≡◌, ◌⊎◌, inl, inr, ℕ, zero, suc, ◌<◌, ◌≤◌, ◌+◌, Bool, true, false, List, [], ◌∷◌, ◌++◌, length, refl, sym, ap, subst, ◌∙◌, arith, get_or}
use Rattle.std.specs.Prelude.{if◌then◌else◌, nat_lt, ◌==◌}
use Rattle.std.proofs.Math.ListN.{get_or-append}
use Rattle.std.proofs.Math.Seq.{get_or-append_seam}
use Rattle.std.proofs.Common.{length-append}
use Rattle.std.proofs.lemmas.List.{get_or_default}
use Rattle.host_net.specs.declared.packet.Packet.{Packet}
use Rattle.packet_set.specs.declared.node.Node.{Node}
use Rattle.packet_set.specs.Nodes.{AreNodes, has, has_by, next_of, no_node, node_at}
use Rattle.packet_set.specs.Sets.{IsSet, Keeps}

choice_below : (b : Bool) (x y n : ℕ) → x < n → y < n → (if b then x else y) < n
choice_below true x y n low high = low
choice_below false x y n low high = high

pub next_below : (nodes : List Node) (set : ℕ) (p : Packet) → AreNodes nodes → 2 ≤ set → set < length nodes → next_of (node_at nodes set) p < set
next_below nodes set p are some there = choice_below _ _ _ set (are.low set some there) (are.high set some there)

small : (set n : ℕ) (b : Bool) → set < 2 → (if nat_lt set 2 then set == 1 else b) ≡ (set == 1)
small set n b low = grind arith

large : (set : ℕ) (x y : Bool) → 2 ≤ set → (if nat_lt set 2 then x else y) ≡ y
large set x y some = grind arith

sides : (n : ℕ) → (n < 2) ⊎ (2 ≤ n)
sides zero = inl (omega arith)
sides (suc zero) = inl (omega arith)
sides (suc (suc n)) = inr (omega arith)

pub has_small : (nodes : List Node) (n set : ℕ) (p : Packet) → set < 2 → has_by n nodes set p ≡ (set == 1)
unfolding has_by
has_small nodes zero set p low = refl
has_small nodes (suc n) set p low = small set n _ low

pub has_large : (nodes : List Node) (n set : ℕ) (p : Packet) → 2 ≤ set → has_by (suc n) nodes set p ≡ has_by n nodes (next_of (node_at nodes set) p) p
unfolding has_by
has_large nodes n set p some = large set _ _ some

pub has_bound : (nodes : List Node) (n m set : ℕ) (p : Packet) → AreNodes nodes → set < length nodes → set ≤ n → set ≤ m → has_by n nodes set p ≡ has_by m nodes set p
has_bound nodes zero m set p are there a b = has_small nodes zero set p (omega arith) ∙ sym (has_small nodes m set p (omega arith))
has_bound nodes (suc n) zero set p are there a b = has_small nodes (suc n) set p (omega arith) ∙ sym (has_small nodes zero set p (omega arith))
has_bound nodes (suc n) (suc m) set p are there a b = elim (sides set) [
  | inl low ↦ has_small nodes (suc n) set p low ∙ sym (has_small nodes (suc m) set p low)
  | inr some ↦
      let below = next_below nodes set p are some there in
      has_large nodes n set p some
      ∙ (has_bound nodes n m (next_of (node_at nodes set) p) p are (omega (arith, below)) (omega (arith, below)) (omega (arith, below)) ∙ sym (has_large nodes m set p some))
]

-- A set has the packets of the set to which its node leads.
pub has_next : (nodes : List Node) (set : ℕ) (p : Packet) → AreNodes nodes → 2 ≤ set → set < length nodes
    → has nodes set p ≡ has nodes (next_of (node_at nodes set) p) p
has_next nodes zero p are some there = absurd (omega arith)
has_next nodes (suc n) p are some there =
    let below = next_below nodes (suc n) p are some there in
    has_large nodes n (suc n) p some ∙ has_bound nodes n (next_of (node_at nodes (suc n)) p) (next_of (node_at nodes (suc n)) p) p are (omega (arith, below)) (omega (arith, below)) (omega arith)

has_zero : (nodes others : List Node) (set : ℕ) (p : Packet) → has_by zero nodes set p ≡ has_by zero others set p
unfolding has_by
has_zero nodes others set p = refl

-- More nodes change no set.
pub has_more : (nodes more : List Node) (n set : ℕ) (p : Packet) → AreNodes nodes → set < length nodes → has_by n (nodes ++ more) set p ≡ has_by n nodes set p
has_more nodes more zero set p are there = elim (sides set) [
  | inl low ↦ has_small (nodes ++ more) zero set p low ∙ sym (has_small nodes zero set p low)
  | inr some ↦ has_zero (nodes ++ more) nodes set p
]
has_more nodes more (suc n) set p are there = elim (sides set) [
  | inl low ↦ has_small (nodes ++ more) (suc n) set p low ∙ sym (has_small nodes (suc n) set p low)
  | inr some ↦
      let below = next_below nodes set p are some there in
      has_large (nodes ++ more) n set p some
      ∙ (ap (λ (x : Node). has_by n (nodes ++ more) (next_of x p) p) (get_or-append nodes more no_node set there)
      ∙ (has_more nodes more n (next_of (node_at nodes set) p) p are (omega (arith, below, there)) ∙ sym (has_large nodes n set p some)))
]

-- ---- one more node

split_last : (i n : ℕ) → i < n + 1 → (i < n) ⊎ (i ≡ n)
split_last zero zero h = inr refl
split_last zero (suc n) h = inl (omega arith)
split_last (suc i) zero h = absurd (omega arith)
split_last (suc i) (suc n) h = elim (split_last i n (omega arith)) [ inl less ↦ inl (omega arith) | inr same ↦ inr (ap suc same) ]

length_pushed : (nodes : List Node) (node : Node) → length (nodes ++ node ∷ []) ≡ length nodes + 1
length_pushed nodes node = length-append nodes (node ∷ [])

at_old : (nodes : List Node) (node : Node) (set : ℕ) → set < length nodes → node_at (nodes ++ node ∷ []) set ≡ node_at nodes set
at_old nodes node set there = get_or-append nodes (node ∷ []) no_node set there

at_new : (nodes : List Node) (node : Node) (set : ℕ) → set ≡ length nodes → node_at (nodes ++ node ∷ []) set ≡ node
at_new nodes node set same = ap (node_at (nodes ++ node ∷ [])) same ∙ get_or-append_seam nodes node [] no_node

-- What holds of the old nodes and of the new one holds of all.
each_pushed : (Below : Node → ℕ → Type 0) (nodes : List Node) (node : Node) → ((set : ℕ) → 2 ≤ set → set < length nodes → Below (node_at nodes set) set)
    → Below node (length nodes) → (set : ℕ) → 2 ≤ set → set < length (nodes ++ node ∷ []) → Below (node_at (nodes ++ node ∷ []) set) set
each_pushed Below nodes node old new set some there = elim (split_last set (length nodes) (omega (arith, there, length_pushed nodes node))) [
  | inl less ↦ subst (λ (x : Node). Below x set) (sym (at_old nodes node set less)) (old set some less)
  | inr same ↦ subst (λ (x : Node). Below x set) (sym (at_new nodes node set same)) (subst (Below node) (sym same) new)
]

pub are_pushed : (nodes : List Node) (node : Node) → AreNodes nodes → node.low < length nodes → node.high < length nodes → AreNodes (nodes ++ node ∷ [])
are_pushed nodes node are low high = record {
  some = let e = length_pushed nodes node in let s = are.some in omega (arith, e, s);
  low = each_pushed (λ x set. x.low < set) nodes node are.low low;
  high = each_pushed (λ x set. x.high < set) nodes node are.high high;
}

pub keeps_pushed : (nodes : List Node) (node : Node) → AreNodes nodes → Keeps nodes (nodes ++ node ∷ [])
keeps_pushed nodes node are = record {
  longer = omega (arith, length_pushed nodes node);
  same = λ set there p. has_more nodes (node ∷ []) set set p are there;
}

pub set_pushed : (nodes : List Node) (node : Node) → AreNodes nodes → node.low < length nodes → node.high < length nodes
    → IsSet (nodes ++ node ∷ []) (length nodes) (λ p. has nodes (next_of node p) p)
set_pushed nodes node are low high = record {
  there = omega (arith, length_pushed nodes node);
  exact = λ p.
      let all = nodes ++ node ∷ [] in
      has_next all (length nodes) p (are_pushed nodes node are low high) are.some (omega (arith, length_pushed nodes node))
      ∙ (ap (λ (x : Node). has all (next_of x p) p) (at_new nodes node (length nodes) refl)
      ∙ has_more nodes (node ∷ []) (next_of node p) (next_of node p) p are (choice_below _ _ _ (length nodes) low high));
}

-- ---- what functions cite

pub keeps_by : (nodes items new : List Node) (node : Node) → items ≡ nodes → AreNodes items → new ≡ items ++ node ∷ [] → Keeps nodes new
keeps_by nodes items new node same are is =
    subst (Keeps nodes) (sym is) (subst (λ (xs : List Node). Keeps xs (items ++ node ∷ [])) same (keeps_pushed items node are))

pub set_by : (nodes items new : List Node) (node : Node) (set : ℕ) → items ≡ nodes → AreNodes items → new ≡ items ++ node ∷ [] → set ≡ length items
    → node.low < length nodes → node.high < length nodes → IsSet new set (λ p. has nodes (next_of node p) p)
set_by nodes items new node set same are is last low high =
    subst (λ (xs : List Node). IsSet new set (λ p. has xs (next_of node p) p)) same
    (subst (λ (xs : List Node). IsSet xs set (λ p. has items (next_of node p) p)) (sym is)
    (subst (λ (n : ℕ). IsSet (items ++ node ∷ []) n (λ p. has items (next_of node p) p)) (sym last)
    (set_pushed items node are (subst (λ (xs : List Node). node.low < length xs) (sym same) low) (subst (λ (xs : List Node). node.high < length xs) (sym same) high))))

pub node_by : (nodes items : List Node) (at : ℕ) (node : Node) → items ≡ nodes → at < length nodes → node ≡ get_or items at node → node ≡ node_at nodes at
node_by nodes items at node same there is =
    is ∙ (ap (λ (xs : List Node). get_or xs at node) same ∙ get_or_default nodes at node no_node there)

pub has_empty : (nodes : List Node) (p : Packet) → has nodes 0 p ≡ false
has_empty nodes p = has_small nodes 0 0 p (omega arith)

pub has_every : (nodes : List Node) (p : Packet) → has nodes 1 p ≡ true
has_every nodes p = has_small nodes 1 1 p (omega arith)
