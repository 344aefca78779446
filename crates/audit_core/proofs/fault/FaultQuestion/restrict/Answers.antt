use Rattle.audit_core.proofs.FaultLaws.{same_faults}
use Rattle.audit_core.proofs.fault.FaultQuestion.restrict.Goals as goal

pub returns-in-Some : goal.returns-in-Some
returns-in-Some c =
    let same = rw c.in-Some.is at c.in_ok-restrict.ensures.faults in
    λ p inside. same_faults c.args.self.now.part c.in-Some.part p (same p inside) c.args.self.now.kind
