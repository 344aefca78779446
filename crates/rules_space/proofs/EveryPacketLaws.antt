-- Packets are the packets of the box of all packets.
use Rattle.std.proofs.Common.{◌≡◌, ℕ, ◌+◌, ◌≤◌, ◌<◌, ◌^◌, refl, arith}
use Rattle.host_net.specs.declared.packet.Packet.{Packet}
use Rattle.host_net.specs.Packet.{IsPacket}
use Rattle.header_space.specs.Boxes.{IsIn, every_packet}

at_most : (a : ℕ) (n m : ℕ) → n ≡ m + 1 → a < n → a ≤ m
at_most a n m is less = omega (arith, is, less)

pub in_every : (p : Packet) → IsPacket p → IsIn every_packet p
in_every p is = record {
  above = record { src = omega arith; dst = omega arith; proto = omega arith; sport = omega arith; dport = omega arith };
  below = record {
    src = at_most p.src (2 ^ 32) 4294967295 refl is.0;
    dst = at_most p.dst (2 ^ 32) 4294967295 refl is.1;
    proto = at_most p.proto (2 ^ 8) 255 refl is.2;
    sport = at_most p.sport (2 ^ 16) 65535 refl is.3;
    dport = at_most p.dport (2 ^ 16) 65535 refl is.4;
  };
}

less_than : (a n m : ℕ) → n ≡ m + 1 → a ≤ m → a < n
less_than a n m is low = omega (arith, is, low)

pub packet_in_every : (p : Packet) → IsIn every_packet p → IsPacket p
packet_in_every p inside = (
  less_than p.src (2 ^ 32) 4294967295 refl inside.below.src,
  less_than p.dst (2 ^ 32) 4294967295 refl inside.below.dst,
  less_than p.proto (2 ^ 8) 255 refl inside.below.proto,
  less_than p.sport (2 ^ 16) 65535 refl inside.below.sport,
  less_than p.dport (2 ^ 16) 65535 refl inside.below.dport,
)
