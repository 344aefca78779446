-- The connection table as a list, the start of a connection, and the table after a run.
use Rattle.std.specs.Prelude.{Bool, List, ◌≡◌, ◌∷◌, Option, Some, None, IsTrue, if◌then◌else◌}
use Rattle.std.specs.Map.{lookup}
use Rattle.host_net.specs.declared.packet.Packet.{Packet}
use Rattle.host_net.specs.declared.packet.CtState.{CtState}
use Rattle.host_net.specs.declared.packet.CtState.TheVariants.{New, Established}
use Rattle.pkt_core.specs.Tracking.{ConnectionTable, same_packet, after_seen, after_forget}
use Rattle.host_net.specs.Packet.{swap_of}
use Rattle.pkt_core.specs.declared.connection.Connection.{Connection}
use Rattle.pkt_core.specs.declared.connection.Connection.TheVariants.{Answers, Begun, Unknown}
use Rattle.pkt_core.specs.declared.event.Event.{Event}
use Rattle.pkt_core.specs.declared.event.Event.TheVariants.{Seen, Forget}

-- The connection table of a list of first packets, each with its mark.
abbrev pub kept_in : List (Packet × Bool) → ConnectionTable
kept_in connections q = lookup (same_packet q) connections

-- The connection of a packet, from the table entries of its reverse and of the packet itself.
abbrev pub connection_by : Option Bool → Option Bool → Connection
connection_by (Some answered) own = Answers answered
connection_by None (Some answered) = Begun answered
connection_by None None = Unknown

abbrev pub connection_of : ConnectionTable → Packet → Connection
connection_of kept p = connection_by (kept (swap_of p)) (kept p)

-- The state of a packet of this connection.
abbrev pub state_by : Connection → CtState
state_by (Answers answered) = Established
state_by (Begun answered) = if answered then Established else New
state_by Unknown = New

-- The packet p begins a connection: it passes and belongs to no tracked connection.
abbrev pub Begins : ConnectionTable → Packet → Bool → Type 0
Begins kept p passes = IsTrue passes × (kept p ≡ None) × (kept (swap_of p) ≡ None)

-- The connection table after a run with these results.
abbrev pub kept_after : ConnectionTable → List Event → List (Option Bool) → ConnectionTable
kept_after kept (Seen p ∷ events) (Some passes ∷ results) = kept_after (after_seen kept p passes) events results
kept_after kept (Forget p ∷ events) (None ∷ results) = kept_after (after_forget kept p) events results
kept_after kept events results = kept
