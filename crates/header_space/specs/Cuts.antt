-- Cuts of a box: a cut divides a box into two boxes, after a source or destination address.
use Rattle.std.specs.Prelude.{◌≤◌, ◌<◌}
use Rattle.header_space.specs.declared.packet_box.PacketBox.{PacketBox}
use Rattle.header_space.specs.declared.cut.Cut.{Cut}
use Rattle.header_space.specs.declared.cut.Cut.TheVariants.{Src, Dst}

-- The cut lies inside the box: the box has packets up to the address and packets after it.
abbrev pub IsCutOf : PacketBox → Cut → Type 0
IsCutOf b (Src n) = (b.least.src ≤ n) × (n < b.greatest.src)
IsCutOf b (Dst n) = (b.least.dst ≤ n) × (n < b.greatest.dst)
