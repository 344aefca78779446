-- Agreement of the two sides on the short lists at a packet, and on every list. Callers use `Sides` instead.
use Rattle.std.specs.Prelude.{List}
use Rattle.host_net.specs.declared.packet.Packet.{Packet}
use Rattle.pkt_core.specs.declared.event.Event.{Event}
use Rattle.pkt_core.specs.Filter.{ArePackets}
use Rattle.pkt_core.specs.FlowPolicy.{permits, permits_reply_to}
use Rattle.audit_core.specs.inner.Agreement.{AgreeAt}
use Rattle.rules_space.specs.Rules.{filter_of}
use Rattle.audit_core.specs.Sides.{Agree, Sides}

-- The two sides agree on the three short lists at a packet.
abbrev pub AgreeShortly : Sides → Packet → Type 0
AgreeShortly sides = AgreeAt (filter_of sides.rules) (permits sides.policy) (permits_reply_to sides.policy)

-- The two sides agree on every list of events with valid packets.
abbrev pub AgreeAlways : Sides → Type 0
AgreeAlways sides = (events : List Event) → ArePackets events → Agree sides events
