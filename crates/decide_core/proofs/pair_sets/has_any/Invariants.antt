use Rattle.std.proofs.Common.{◌≡◌, false, take}
use Rattle.host_net.specs.declared.packet.Packet.{Packet}
use Rattle.packet_set.specs.Nodes.{has}
use Rattle.decide_core.specs.Deciders.{IsInOne}
use Rattle.decide_core.proofs.pair_sets.has_any.Given as goal

abbrev pub invariant-loop-within : goal.invariant-loop-within
invariant-loop-within l = (p : Packet) → IsInOne (take l.within-index l.boxes) p → has l.diagrams l.set p ≡ false
