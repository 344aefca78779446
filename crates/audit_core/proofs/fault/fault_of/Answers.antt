use Rattle.rules_space.proofs.EveryPacketLaws.{in_every, packet_in_every}
use Rattle.audit_core.proofs.FaultLaws.{right_where}
use Rattle.audit_core.proofs.fault.fault_of.Goals as goal

pub returns-in-None : goal.returns-in-None
returns-in-None c =
    let none = rw c.in-None.is at c.in_ok-least_fault.ensures in
    λ p is. right_where c.args.sides.now c.args.kind p (none p (in_every p is))

pub returns-in-Some : goal.returns-in-Some
returns-in-Some c =
    let found = rw c.in-Some.is at c.in_ok-least_fault.ensures in
    record {
      at = c.in-Some.packet;
      packet = packet_in_every c.in-Some.packet found.inside;
      is = c.trace_at.ensures.is;
      wrong = c.trace_at.ensures.wrong;
      first = λ p is before. right_where c.args.sides.now c.args.kind p (found.first p (in_every p is) before);
    }
