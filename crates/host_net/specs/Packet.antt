-- Packets.
use Rattle.std.specs.Prelude.{◌<◌, ◌^◌}
use Rattle.host_net.specs.declared.packet.Packet.{Packet}

-- The reply packet: addresses and ports are exchanged.
abbrev pub swap_of : Packet → Packet
swap_of p = record { src = p.dst; dst = p.src; proto = p.proto; sport = p.dport; dport = p.sport }

-- Each field of a packet fits its width in the header.
abbrev pub IsPacket : Packet → Type 0
IsPacket p = (p.src < 2 ^ 32) × (p.dst < 2 ^ 32) × (p.proto < 2 ^ 8) × (p.sport < 2 ^ 16) × (p.dport < 2 ^ 16)
