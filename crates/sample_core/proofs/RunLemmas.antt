-- A run over packets, packet by packet, and the number of forwarded packets.
use Rattle.std.proofs.Common.{◌≡◌, ◌≤◌, ℕ, ◌+◌, Bool, true, false, List, [], ◌∷◌, Option, Some, length, map, filter, sym, subst, arith}
use Rattle.host_net.specs.declared.packet.Packet.{Packet}
use Rattle.pkt_core.specs.Firewall.{Filter}
use Rattle.pkt_core.specs.Tracking.{ConnectionTable, Runs}
use Rattle.pkt_core.specs.declared.event.Event.{Event}
use Rattle.pkt_core.specs.declared.event.Event.TheVariants.{Seen}
use Rattle.sample_core.specs.Sample.{was_forwarded}
use Rattle.sample_core.specs.inner.SampleCounts.{AreForwarded}
use Rattle.std.specs.Prelude.{if◌then◌else◌}

-- For every run over the remaining packets, the count plus the number that it forwards is the number that the whole run
-- forwards.
abbrev pub Leaves : Filter → List Packet → ConnectionTable → List Packet → ℕ → Type 0
Leaves filter_of all kept packets count =
    (rest : List (Option Bool)) → Runs filter_of kept (map Seen packets) rest → AreForwarded filter_of (map Seen all)
    (count + length (filter was_forwarded rest))

one_more : (passes : Bool) (rest : List (Option Bool)) (count new : ℕ) → new ≡ count + (if passes then 1 else 0)
    → count + length (filter was_forwarded (Some passes ∷ rest)) ≡ new + length (filter was_forwarded rest)
one_more true rest count new is = omega (arith, is)
one_more false rest count new is = omega (arith, is)

pub leaves_next : (filter_of : Filter) (all : List Packet) (kept now : ConnectionTable) (packets : List Packet) (packet : Packet)
    (later : List Packet) (count new : ℕ) (passes : Bool)
    → packets ≡ packet ∷ later
    → ((es : List Event) (answers : List (Option Bool)) → Runs filter_of now es answers
    → Runs filter_of kept (Seen packet ∷ es) (Some passes ∷ answers))
    → new ≡ count + (if passes then 1 else 0) → Leaves filter_of all kept packets count → Leaves filter_of all now later new
leaves_next filter_of all kept now packets packet later count new passes here steps added left rest run =
    subst (AreForwarded filter_of (map Seen all)) (one_more passes rest count new added)
    (left (Some passes ∷ rest)
    (subst (λ (ps : List Packet). Runs filter_of kept (map Seen ps) (Some passes ∷ rest)) (sym here) (steps (map Seen later) rest run)))

pub leaves_none : (filter_of : Filter) (all : List Packet) (kept : ConnectionTable) (packets : List Packet) (count : ℕ) → packets ≡ []
    → Leaves filter_of all kept packets count → AreForwarded filter_of (map Seen all) count
leaves_none filter_of all kept packets count none left =
    subst (AreForwarded filter_of (map Seen all)) (omega arith)
    (left [] (subst (λ (ps : List Packet). Runs filter_of kept (map Seen ps) []) (sym none) tt))

pub at_most_one : (passes : Bool) → (if passes then 1 else 0) ≤ 1
at_most_one true = omega arith
at_most_one false = omega arith
