-- Verdicts of packets.
use Rattle.std.specs.Prelude.{Bool, true, false}
use Rattle.host_net.specs.declared.packet.Verdict.{Verdict}
use Rattle.host_net.specs.declared.packet.Verdict.TheVariants.{Forward, Drop}

-- The verdict that forwards a packet, or drops it.
abbrev pub verdict_if : Bool → Verdict
verdict_if true = Forward
verdict_if false = Drop
