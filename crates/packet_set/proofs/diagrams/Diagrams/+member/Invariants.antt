use Rattle.packet_set.proofs.diagrams.Diagrams.+member.Given as goal

abbrev pub decreases-member : goal.decreases-member
decreases-member l = l.set
