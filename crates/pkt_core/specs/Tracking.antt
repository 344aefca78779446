-- Connection tracking: the connection table after a list of events, and the state that it assigns to a packet. The states NEW and
-- ESTABLISHED are those of the match conntrack in iptables-extensions(8). Each packet has one of these two, by its addresses, protocol and
-- ports alone: none is RELATED, INVALID or UNTRACKED. A timeout is an event that forgets the connection.
use Rattle.std.specs.Prelude.{Bool, true, false, not, ◌==◌, ◌&&◌, ◌||◌, if◌then◌else◌, List, [], ◌∷◌, Option, Some, None, is_some, ⊤}
use Rattle.std.specs.Option.{unwrap_or}
use Rattle.host_net.specs.declared.packet.Packet.{Packet}
use Rattle.host_net.specs.declared.packet.CtState.{CtState}
use Rattle.host_net.specs.declared.packet.CtState.TheVariants.{New, Established}
use Rattle.host_net.specs.Packet.{swap_of}
use Rattle.pkt_core.specs.declared.event.Event.{Event}
use Rattle.pkt_core.specs.declared.event.Event.TheVariants.{Seen, Forget}
use Rattle.pkt_core.specs.Firewall.{Filter}

-- The connection table. It maps the first packet of each tracked connection to whether the connection was answered, and
-- every other packet to `None`.
abbrev pub ConnectionTable : Type 0
ConnectionTable = Packet → Option Bool

-- The empty connection table.
abbrev pub no_connections : ConnectionTable
no_connections p = None

-- The two packets are equal in all fields.
abbrev pub same_packet : Packet → Packet → Bool
same_packet p q = (p.src == q.src) && ((p.dst == q.dst) && ((p.proto == q.proto) && ((p.sport == q.sport) && (p.dport == q.dport))))

-- The connection table with a new entry for p.
abbrev pub with_connection : ConnectionTable → Packet → Option Bool → ConnectionTable
with_connection kept p now q = if same_packet p q then now else kept q

-- A packet is established if it answers a tracked connection, or if it belongs to a tracked connection that was
-- answered.
abbrev pub state_of : ConnectionTable → Packet → CtState
state_of kept p = if is_some (kept (swap_of p)) || unwrap_or (kept p) false then Established else New

-- The table after a packet: if the packet answers a connection, the connection is marked as answered; otherwise, if it passes and belongs
-- to no connection, it begins a connection.
abbrev pub after_seen : ConnectionTable → Packet → Bool → ConnectionTable
after_seen kept p passes =
    if is_some (kept (swap_of p)) then with_connection kept (swap_of p) (Some true)
    else (if passes && not (is_some (kept p)) then with_connection kept p (Some false) else kept)

-- The table after a connection is forgotten, in both directions.
abbrev pub after_forget : ConnectionTable → Packet → ConnectionTable
after_forget kept p = with_connection (with_connection kept p None) (swap_of p) None

-- A run of a filter: each packet passes or not in its current state, and the table tracks it accordingly. A forget
-- event has no result.
abbrev pub Runs : Filter → ConnectionTable → List Event → List (Option Bool) → Type 0
Runs filter kept [] [] = ⊤
Runs filter kept (Seen p ∷ events) (Some passes ∷ results) =
    filter (state_of kept p) p passes × Runs filter (after_seen kept p passes) events results
Runs filter kept (Forget p ∷ events) (None ∷ results) = Runs filter (after_forget kept p) events results
Runs filter kept events results = ⊥
