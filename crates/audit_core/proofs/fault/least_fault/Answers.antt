use Rattle.std.proofs.Common.{subst}
use Rattle.std.specs.Prelude.{IfOk}
use Rattle.header_space.specs.declared.packet_box.PacketBox.{PacketBox}
use Rattle.header_space.specs.Boxes.{every_packet}
use Rattle.header_space.specs.Searching.{IsLeastWhere}
use Rattle.audit_core.specs.Sides.{Sides}
use Rattle.audit_core.specs.inner.Faults.{HasFault}
use Rattle.audit_core.proofs.fault.least_fault.Goals as goal

pub returns : goal.returns
returns c =
    subst (λ (sides : Sides). IfOk c.least_where.result (IsLeastWhere (HasFault sides c.args.kind) every_packet)) c.by_ref.ensures
    (subst (λ (b : PacketBox). IfOk c.least_where.result (IsLeastWhere (HasFault c.by_ref.result c.args.kind) b)) c.every.ensures.value c.least_where.ensures)
