-- The order of packets distinguishes two packets if and only if a field differs, so the map is keyed by the fields.
use Rattle.std.proofs.Common.{◌≡◌, ℕ, Bool, true, false, cond, nat_lt, ◌==◌, ◌&&◌, Ordering, Less, Equal, Greater, List, refl, sym, ap, ◌∙◌, arith}
use Rattle.std.specs.Prelude.{Option}
use Rattle.std.specs.BTreeMap.{is_at}
use Rattle.std.specs.Map.{lookup}
use Rattle.std.specs.Ordering.{is_eq, nat_cmp, ordering_then}
use Rattle.std.proofs.lemmas.Bool.Decides.{nat_tests}
use Rattle.host_net.specs.declared.packet.Packet.{Packet}
use Rattle.host_net.specs.contracts.packet.PacketOrd.TheImpl as order
use Rattle.pkt_core.specs.inner.ConnectionTable.{kept_in}
use Rattle.pkt_core.specs.Tracking.{same_packet, with_connection}

below_is_other : (a b : ℕ) → nat_lt a b ≡ true → (a == b) ≡ true → ⊥
below_is_other a b = grind (arith, nat_tests)

same_number : (a b : ℕ) → is_eq (nat_cmp a b) ≡ (a == b)
same_number a b = grind (arith, nat_tests)

same_then : (a b : ℕ) (o : Ordering) → is_eq (ordering_then (nat_cmp a b) o) ≡ ((a == b) && is_eq o)
same_then a b o = by_tests (nat_lt a b) (a == b) (below_is_other a b)
  where
    by_tests : (less same : Bool) → (less ≡ true → same ≡ true → ⊥) → is_eq (ordering_then (cond less Less (cond same Equal Greater)) o) ≡ (same && is_eq o)
    by_tests true true none = absurd (none refl refl)
    by_tests true false none = refl
    by_tests false true none = refl
    by_tests false false none = refl

by_fields : (a b c d e a' b' c' d' e' : ℕ) →
    is_eq (ordering_then (nat_cmp a a') (ordering_then (nat_cmp b b') (ordering_then (nat_cmp c c') (ordering_then (nat_cmp d d') (nat_cmp e e')))))
    ≡ ((a == a') && ((b == b') && ((c == c') && ((d == d') && (e == e')))))
by_fields a b c d e a' b' c' d' e' =
    same_then a a' (ordering_then (nat_cmp b b') (ordering_then (nat_cmp c c') (ordering_then (nat_cmp d d') (nat_cmp e e'))))
    ∙ ap (λ t. (a == a') && t) (same_then b b' (ordering_then (nat_cmp c c') (ordering_then (nat_cmp d d') (nat_cmp e e')))
    ∙ ap (λ t. (b == b') && t) (same_then c c' (ordering_then (nat_cmp d d') (nat_cmp e e'))
    ∙ ap (λ t. (c == c') && t) (same_then d d' (nat_cmp e e')
    ∙ ap (λ t. (d == d') && t) (same_number e e'))))

is_at-cmp : (p q : Packet) → is_at ((order.cmp-value).it p) q ≡ same_packet p q
is_at-cmp p q = by_fields p.src p.dst p.proto p.sport p.dport q.src q.dst q.proto q.sport q.dport

read_by_fields : (entries : List (Packet × Bool)) (q : Packet) → lookup (is_at ((order.cmp-value).it q)) entries ≡ kept_in entries q
read_by_fields entries q = ap (λ (test : Packet → Bool). lookup test entries) (λ i k. is_at-cmp q k i)

-- The lookups of a map after a change at p.
pub kept_in-updates : (old new : List (Packet × Bool)) (p : Packet) (now : Option Bool) →
    ((q : Packet) → lookup (is_at ((order.cmp-value).it q)) new ≡ cond (is_at ((order.cmp-value).it p) q) now (lookup (is_at ((order.cmp-value).it q)) old)) →
    kept_in new ≡ with_connection (kept_in old) p now
kept_in-updates old new p now updates = λ i q. at q i
  where
    at : (q : Packet) → kept_in new q ≡ with_connection (kept_in old) p now q
    at q =
        sym (read_by_fields new q) ∙ updates q
        ∙ ap (λ t. cond t now (lookup (is_at ((order.cmp-value).it q)) old)) (is_at-cmp p q)
        ∙ ap (λ o. cond (same_packet p q) now o) (read_by_fields old q)
