-- Packet filters, and firewalls that match on connection states. A policy is given by two predicates on packets: the permitted packets, and
-- the stateful ones, whose answers may pass (a stateful policy, as in the AFP entry Network_Security_Policy_Verification).
use Rattle.std.specs.Prelude.{Bool, true, false, ◌&&◌, ◌||◌}
use Rattle.host_net.specs.declared.packet.Packet.{Packet}
use Rattle.host_net.specs.declared.packet.CtState.{CtState}
use Rattle.host_net.specs.declared.packet.CtState.TheVariants.{New, Established}
use Rattle.host_net.specs.Packet.{swap_of}

-- A filter is a relation: `filter state packet passes` states that a packet in this connection state passes, or does not.
abbrev pub Filter : Type 1
Filter = CtState → Packet → Bool → Type 0

-- The connection state is ESTABLISHED.
abbrev pub is_established : CtState → Bool
is_established New = false
is_established Established = true

-- A permitted packet may pass in every state, and an answer to a stateful packet may pass on an established connection.
abbrev pub may_pass : (permitted stateful : Packet → Bool) → CtState → Packet → Bool
may_pass permitted stateful state p = permitted p || (stateful (swap_of p) && is_established state)
