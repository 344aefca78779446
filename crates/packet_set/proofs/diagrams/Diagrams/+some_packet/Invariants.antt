use Rattle.packet_set.proofs.diagrams.Diagrams.+some_packet.Given as goal

abbrev pub decreases-some_packet : goal.decreases-some_packet
decreases-some_packet l = l.set
