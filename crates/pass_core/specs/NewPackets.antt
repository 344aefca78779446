-- Acceptance of packets of new connections by rules.
use Rattle.std.specs.Prelude.{true}
use Rattle.host_net.specs.declared.packet.Packet.{Packet}
use Rattle.host_net.specs.declared.packet.CtState.TheVariants.{New}
use Rattle.rules_space.specs.Rules.{AnyRules, filter_of}

-- The rules accept the packet as a packet of a new connection.
abbrev pub LetsPass : AnyRules → Packet → Type 0
LetsPass rules p = filter_of rules New p true
