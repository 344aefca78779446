-- Boxes of packets: products of five intervals, one for each field of a header.
use Rattle.std.specs.Prelude.{◌≡◌, ◌≤◌}
use Rattle.host_net.specs.declared.packet.Packet.{Packet}
use Rattle.host_net.specs.Packet.{swap_of}
use Rattle.header_space.specs.declared.packet_box.PacketBox.{PacketBox}

-- Packet p is no higher than packet q: each field of p is at most the same field of q.
pub record IsNoHigher (p q : Packet) : Type 0 where
  pub src : p.src ≤ q.src
  pub dst : p.dst ≤ q.dst
  pub proto : p.proto ≤ q.proto
  pub sport : p.sport ≤ q.sport
  pub dport : p.dport ≤ q.dport

-- Packet p is in box b: each field of p is at least that field of `least`, and at most that field of `greatest`.
pub record IsIn (b : PacketBox) (p : Packet) : Type 0 where
  pub above : IsNoHigher b.least p
  pub below : IsNoHigher p b.greatest

-- The box is non-empty: each field of `least` is at most the same field of `greatest`.
abbrev pub IsBox : PacketBox → Type 0
IsBox b = IsNoHigher b.least b.greatest

-- Box `new` is a non-empty part of box `old`, and both have the same least packet.
pub record Narrows (old new : PacketBox) : Type 0 where
  pub least : new.least ≡ old.least
  pub is_box : IsBox new
  pub below : IsNoHigher new.greatest old.greatest

-- The box of the replies to the packets of a box: addresses and ports are exchanged.
abbrev pub swapped : PacketBox → PacketBox
swapped b = record { least = swap_of b.least; greatest = swap_of b.greatest }

-- The box of all packets.
abbrev pub every_packet : PacketBox
every_packet = record {
  least = record { src = 0; dst = 0; proto = 0; sport = 0; dport = 0 };
  greatest = record { src = 4294967295; dst = 4294967295; proto = 255; sport = 65535; dport = 65535 };
}
