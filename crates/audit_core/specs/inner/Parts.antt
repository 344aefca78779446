-- Sides with the same verdicts on the packets of a box. Callers use `Findings` instead.
use Rattle.std.specs.Prelude.{◌≡◌, ◌↔◌}
use Rattle.host_net.specs.declared.packet.Packet.{Packet}
use Rattle.header_space.specs.declared.packet_box.PacketBox.{PacketBox}
use Rattle.header_space.specs.Boxes.{IsIn}
use Rattle.audit_core.specs.declared.kind.Kind.{Kind}
use Rattle.rules_space.specs.Verdicts.{HaveSameVerdicts}
use Rattle.audit_core.specs.Sides.{Sides, sides_of}
use Rattle.audit_core.specs.inner.Faults.{IsFault}

-- The same packets of a box are faults, for each kind of list.
abbrev pub HaveSameFaults : PacketBox → Sides → Sides → Type 0
HaveSameFaults b sides others = (p : Packet) → IsIn b p → (kind : Kind) → (IsFault others kind p ↔ IsFault sides kind p)

-- The part has the same policy, and its rules forward the same packets of a box.
pub record IsPartOf (b : PacketBox) (sides part : Sides) : Type 0 where
  pub policy : part ≡ sides_of sides.policy part.rules
  pub verdicts : HaveSameVerdicts b sides.rules part.rules
