use Rattle.std.proofs.Common.{Option, subst}
use Rattle.std.specs.Prelude.{IfSome}
use Rattle.header_space.specs.declared.packet_box.PacketBox.{PacketBox}
use Rattle.audit_core.specs.inner.Parts.{IsPartOf}
use Rattle.audit_core.specs.Sides.{Sides}
use Rattle.audit_core.proofs.ListEndLaws.{part_holds}
use Rattle.audit_core.proofs.list_end.Ends.restrict.Goals as goal

pub returns : goal.returns
returns c =
    part_holds c.args.within.now c.args.self.now (record { part = c.in-Some.part; swaps = c.in-Some-2.swaps })
    (subst (λ (part : Option Sides). IfSome part (IsPartOf c.args.within.now c.args.self.now.part)) c.in-Some.is c.in_ok-part.ensures.part)
    (subst (λ (b : PacketBox). IsPartOf b c.args.self.now.swaps c.in-Some-2.swaps) c.swap.ensures
    (subst (λ (part : Option Sides). IfSome part (IsPartOf c.swap.result c.args.self.now.swaps)) c.in-Some-2.is c.in_ok-swaps.ensures.part))
