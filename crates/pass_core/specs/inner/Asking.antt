-- Areas with a question restricted to their packets. Internal: callers use `Passing`.
use Rattle.std.specs.Prelude.{◌↔◌, Option, Some, None}
use Rattle.host_net.specs.declared.packet.Packet.{Packet}
use Rattle.host_net.specs.Packet.{IsPacket}
use Rattle.pass_core.specs.declared.area.Area.{Area}
use Rattle.pass_core.specs.inner.Areas.{IsArea, IsInArea}

-- The restricted question, or the whole question if there is none.
abbrev pub part_or : {A : Type 0} → A → Option A → A
part_or whole None = whole
part_or whole (Some part) = part

-- The area is not empty, and the restricted question is equivalent to the whole question for packets of the area.
pub record IsAsked (Holds : Packet → Type 0) (area : Area) (Part : Packet → Type 0) : Type 0 where
  pub packets : IsArea area
  pub same : (p : Packet) → IsPacket p → IsInArea area p → (Part p ↔ Holds p)
