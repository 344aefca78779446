-- The fields of a header, and boxes that end at a number in a field or start after it. Not visible to callers.
use Rattle.std.specs.Prelude.{ℕ, ◌+◌}
use Rattle.host_net.specs.declared.packet.Packet.{Packet}
use Rattle.header_space.specs.declared.packet_box.PacketBox.{PacketBox}
use Rattle.header_space.specs.declared.field.Field.{Field}
use Rattle.header_space.specs.declared.field.Field.TheVariants.{Src, Dst, Proto, Sport, Dport}

-- The number in a field of a packet.
abbrev pub number_of : Field → Packet → ℕ
number_of Src p = p.src
number_of Dst p = p.dst
number_of Proto p = p.proto
number_of Sport p = p.sport
number_of Dport p = p.dport

-- The greatest number of the field.
abbrev pub limit_of : Field → ℕ
limit_of Src = 4294967295
limit_of Dst = 4294967295
limit_of Proto = 255
limit_of Sport = 65535
limit_of Dport = 65535

-- Packet p with number n in the field.
abbrev pub with_number : Field → Packet → ℕ → Packet
with_number Src p n = record { src = n; dst = p.dst; proto = p.proto; sport = p.sport; dport = p.dport }
with_number Dst p n = record { src = p.src; dst = n; proto = p.proto; sport = p.sport; dport = p.dport }
with_number Proto p n = record { src = p.src; dst = p.dst; proto = n; sport = p.sport; dport = p.dport }
with_number Sport p n = record { src = p.src; dst = p.dst; proto = p.proto; sport = n; dport = p.dport }
with_number Dport p n = record { src = p.src; dst = p.dst; proto = p.proto; sport = p.sport; dport = n }

-- The packets of a box up to a number in the field.
abbrev pub up_to : Field → PacketBox → ℕ → PacketBox
up_to f b n = record { least = b.least; greatest = with_number f b.greatest n }

-- The packets of a box after a number in the field.
abbrev pub after : Field → PacketBox → ℕ → PacketBox
after f b n = record { least = with_number f b.least (n + 1); greatest = b.greatest }
