-- The address of the other host in a packet.
use Rattle.std.specs.Prelude.{ℕ}
use Rattle.host_net.specs.declared.packet.Packet.{Packet}
use Rattle.emit_core.specs.declared.direction.Direction.{Direction}
use Rattle.emit_core.specs.declared.direction.Direction.TheVariants.{Outbound, Inbound}

abbrev pub other_address : Direction → Packet → ℕ
other_address Outbound packet = packet.dst
other_address Inbound packet = packet.src
