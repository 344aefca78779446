-- Lemmas on tracking: the packets in the connection table after an event.
use Rattle.std.proofs.Common.{◌≡◌, ◌≢◌, Bool, true, false, not, ◌==◌, ◌&&◌, ◌||◌, Some, None, refl, sym, ap, ◌∙◌, true≢false}
use Rattle.std.specs.Prelude.{is_some, if◌then◌else◌, Option}
use Rattle.std.specs.Bool.{Decides}
use Rattle.std.proofs.lemmas.Bool.Decides.{Decides-and, Decides-eqb}
use Rattle.host_net.specs.declared.packet.Packet.{Packet}
use Rattle.host_net.specs.Packet.{swap_of}
use Rattle.pkt_core.specs.Tracking.{ConnectionTable, after_forget, after_seen, same_packet, with_connection}

abbrev SameFields : Packet → Packet → Type 0
SameFields p q = (p.src ≡ q.src) × ((p.dst ≡ q.dst) × ((p.proto ≡ q.proto) × ((p.sport ≡ q.sport) × (p.dport ≡ q.dport))))

fields_decide : (p q : Packet) → Decides (same_packet p q) (SameFields p q)
fields_decide p q =
    Decides-and (p.src == q.src) _ (Decides-eqb p.src q.src)
    (Decides-and (p.dst == q.dst) _ (Decides-eqb p.dst q.dst)
    (Decides-and (p.proto == q.proto) _ (Decides-eqb p.proto q.proto)
    (Decides-and (p.sport == q.sport) _ (Decides-eqb p.sport q.sport) (Decides-eqb p.dport q.dport))))

pub same_packet-is : (p q : Packet) → same_packet p q ≡ true → p ≡ q
same_packet-is p q h =
    let f = (fields_decide p q).0 h in
    λ i. record { src = f.0 i; dst = f.1.0 i; proto = f.1.1.0 i; sport = f.1.1.1.0 i; dport = f.1.1.1.1 i }

pub same_packet-self : (p : Packet) → same_packet p p ≡ true
same_packet-self p = (fields_decide p p).1 (refl, (refl, (refl, (refl, refl))))

pub same_packet-not : (p q : Packet) → p ≢ q → same_packet p q ≡ false
same_packet-not p q apart = by_test (same_packet p q) refl
  where
    by_test : (b : Bool) → same_packet p q ≡ b → b ≡ false
    by_test true h = absurd (apart (same_packet-is p q h))
    by_test false h = refl

pub not_same_packet : (p q : Packet) → same_packet p q ≡ false → p ≢ q
not_same_packet p q h is = true≢false (sym (same_packet-self q) ∙ ap (λ (r : Packet). same_packet r q) (sym is) ∙ h)

-- Reversing both packets preserves the test.
pub same_packet-swap : (p q : Packet) → same_packet (swap_of p) q ≡ same_packet p (swap_of q)
same_packet-swap p q = by_bools (p.dst == q.src) (p.src == q.dst) (p.proto == q.proto) (p.dport == q.sport) (p.sport == q.dport)
  where
    by_bools : (a b c d e : Bool) → (a && (b && (c && (d && e)))) ≡ (b && (a && (c && (e && d))))
    by_bools true true true true true = refl
    by_bools true true true true false = refl
    by_bools true true true false true = refl
    by_bools true true true false false = refl
    by_bools true true false d e = refl
    by_bools true false c d e = refl
    by_bools false true c d e = refl
    by_bools false false c d e = refl

no_more : (b s : Bool) → b ≡ (b || (s && false))
no_more true s = refl
no_more false true = refl
no_more false false = refl

none_begins : (b s a n : Bool) → b ≡ (b || (s && (a && (n && false))))
none_begins b s true true = no_more b s
none_begins b s true false = no_more b s
none_begins b s false n = no_more b s

-- Marking a tracked packet adds no other packet.
marked : (kept : ConnectionTable) (r q : Packet) → is_some (kept r) ≡ true → is_some (with_connection kept r (Some true) q) ≡ is_some (kept q)
marked kept r q is = by_test (same_packet r q) refl
  where
    by_test : (b : Bool) → same_packet r q ≡ b → is_some (if b then Some true else kept q) ≡ is_some (kept q)
    by_test true h = sym (ap (λ (x : Packet). is_some (kept x)) (sym (same_packet-is r q h)) ∙ is)
    by_test false h = refl

-- The table after a packet: the tracked packets, and the packet if it begins a connection.
pub keys-after_seen : (kept : ConnectionTable) (p : Packet) (accepted : Bool) (q : Packet) →
    is_some (after_seen kept p accepted q) ≡ (is_some (kept q) || (same_packet p q && (accepted && (not (is_some (kept p)) && not (is_some (kept (swap_of p)))))))
keys-after_seen kept p accepted q = by_tests (kept (swap_of p)) (kept p) accepted refl
  where
    begun : (same : Bool) (o : Option Bool) → is_some (if same then Some false else o) ≡ (is_some o || (same && true))
    begun true None = refl
    begun true (Some m) = refl
    begun false None = refl
    begun false (Some m) = refl

    by_tests : (other own : Option Bool) (a : Bool) → kept (swap_of p) ≡ other →
        is_some ((if is_some other then with_connection kept (swap_of p) (Some true) else (if a && not (is_some own) then with_connection kept p (Some false) else kept)) q) ≡ (is_some (kept q) || (same_packet p q && (a && (not (is_some own) && not (is_some other)))))
    by_tests (Some m) own a is = marked kept (swap_of p) q (ap is_some is) ∙ none_begins (is_some (kept q)) (same_packet p q) a (not (is_some own))
    by_tests None None true is = begun (same_packet p q) (kept q)
    by_tests None (Some m) true is = no_more (is_some (kept q)) (same_packet p q)
    by_tests None own false is = no_more (is_some (kept q)) (same_packet p q)

-- The table after a forget event: the tracked packets without the connection.
pub keys-after_forget : (kept : ConnectionTable) (p q : Packet)
    → is_some (after_forget kept p q) ≡ (not (same_packet p q || same_packet p (swap_of q)) && is_some (kept q))
keys-after_forget kept p q = ap (λ b. is_some (if b then None else (if same_packet p q then None else kept q))) (same_packet-swap p q) ∙ by_tests (same_packet p (swap_of q)) (same_packet p q) (kept q)
  where
    by_tests : (turned same : Bool) (own : Option Bool)
        → is_some (if turned then None else (if same then None else own)) ≡ (not (same || turned) && is_some own)
    by_tests true true own = refl
    by_tests true false own = refl
    by_tests false true own = refl
    by_tests false false own = refl
