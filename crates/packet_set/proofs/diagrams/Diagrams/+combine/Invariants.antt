use Rattle.std.proofs.Common.{◌+◌}
use Rattle.packet_set.proofs.diagrams.Diagrams.+combine.Given as goal

abbrev pub decreases-combine : goal.decreases-combine
decreases-combine l = l.left + l.right
