-- The two parts of a cut box, and equivalent properties. Not visible to callers.
use Rattle.std.specs.Prelude.{◌↔◌}
use Rattle.host_net.specs.declared.packet.Packet.{Packet}
use Rattle.header_space.specs.declared.packet_box.PacketBox.{PacketBox}
use Rattle.header_space.specs.declared.cut.Cut.{Cut}
use Rattle.header_space.specs.declared.cut.Cut.TheVariants.{Src, Dst}
use Rattle.header_space.specs.Boxes.{IsIn}
use Rattle.header_space.specs.declared.field.Field.TheVariants.{Src as FieldSrc, Dst as FieldDst}
use Rattle.header_space.specs.inner.Fields.{after, up_to}

abbrev pub lower : PacketBox → Cut → PacketBox
lower b (Src n) = up_to FieldSrc b n
lower b (Dst n) = up_to FieldDst b n

abbrev pub upper : PacketBox → Cut → PacketBox
upper b (Src n) = after FieldSrc b n
upper b (Dst n) = after FieldDst b n

-- Two properties are equivalent for the packets of a box.
abbrev pub AreSameIn : PacketBox → (A B : Packet → Type 0) → Type 0
AreSameIn b A B = (p : Packet) → IsIn b p → (A p ↔ B p)
