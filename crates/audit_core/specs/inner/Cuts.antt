-- Packets that no cut separates.
use Rattle.host_net.specs.declared.packet.Packet.{Packet}
use Rattle.audit_core.specs.inner.Ranges.{AreOneProtocol, AreTogether}
use Rattle.audit_core.specs.Cuts.{Cuts}

-- The two packets belong to one class.
pub record AreOneClass (cuts : Cuts) (p q : Packet) : Type 0 where
  pub src : AreTogether cuts.addresses p.src q.src
  pub dst : AreTogether cuts.addresses p.dst q.dst
  pub proto : AreOneProtocol cuts.protocols p.proto q.proto
  pub sport : AreTogether cuts.ports p.sport q.sport
  pub dport : AreTogether cuts.ports p.dport q.dport
