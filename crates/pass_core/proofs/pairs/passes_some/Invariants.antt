use Rattle.std.proofs.Common.{take}
use Rattle.host_net.specs.declared.packet.Packet.{Packet}
use Rattle.host_net.specs.Packet.{IsPacket}
use Rattle.pass_core.specs.inner.Areas.{IsInOne}
use Rattle.pass_core.proofs.pairs.passes_some.Given as goal

abbrev pub invariant-loop-area : goal.invariant-loop-area
invariant-loop-area g l = (p : Packet) → IsPacket p → IsInOne (take l.area-index l.area-items) p → g.Q.Question.holds_of l.question p → ⊥
