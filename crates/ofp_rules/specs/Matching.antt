-- The frames that an entry of a flow table matches (ovs-fields(7)).
use Rattle.std.specs.Prelude.{ℕ, Bool, true, false, ◌&&◌, ◌||◌, ◌==◌, Option, Some, None, is_some, not}
use Rattle.std.specs.Option.{option_map_or}
use Rattle.host_net.specs.declared.prefix.Prefix.{Prefix}
use Rattle.host_net.specs.declared.packet.Packet.{Packet}
use Rattle.host_net.specs.Prefix.{covers}
use Rattle.host_net.specs.Service.{has_ports}
use Rattle.ofp_rules.specs.declared.entry.Frame.{Frame}
use Rattle.ofp_rules.specs.declared.entry.Frame.TheVariants.{Arp, Ipv4}
use Rattle.ofp_rules.specs.declared.entry.FrameKind.{FrameKind}
use Rattle.ofp_rules.specs.declared.entry.FrameKind.TheVariants.{Any as OfAny, Arp as OfArp, Ip as OfIp}
use Rattle.ofp_rules.specs.declared.entry.Entry.{Entry}

-- The prefix covers the address. Without a prefix, every address matches.
abbrev pub part_matches : Option Prefix → ℕ → Bool
part_matches None address = true
part_matches (Some prefix) address = covers prefix address

-- The number equals the number of the entry. Without a number in the entry, every number matches.
abbrev pub number_matches : Option ℕ → ℕ → Bool
number_matches None n = true
number_matches (Some own) n = own == n

-- The packet has the protocol and the ports of the entry, and the prefixes of the entry cover the addresses.
abbrev pub packet_matches : Entry → Packet → Bool
packet_matches e packet =
    number_matches e.proto packet.proto
    && (number_matches e.tp_src packet.sport
    && (number_matches e.tp_dst packet.dport && (part_matches e.src packet.src && part_matches e.dst packet.dst)))

-- An entry for any frame matches every frame. An entry for ARP matches ARP frames. An entry for IPv4 matches the IPv4 frames whose packet
-- satisfies `asked`.
abbrev pub kind_matches : FrameKind → (Packet → Bool) → Frame → Bool
kind_matches OfAny asked frame = true
kind_matches OfArp asked Arp = true
kind_matches OfIp asked (Ipv4 packet) = asked packet
kind_matches _ asked frame = false

abbrev pub matches : Frame → Entry → Bool
matches frame e = kind_matches e.kind (packet_matches e) frame

-- Only an entry for IPv4 frames may match on addresses or a protocol, that is, satisfy `asks`.
abbrev pub kind_asks : FrameKind → Bool → Bool
kind_asks OfIp asks = true
kind_asks _ asks = not asks

-- Entry e meets the prerequisites of its fields: addresses and protocol require IPv4, and ports require a protocol with ports.
abbrev pub asks_of_ip : Entry → Bool
asks_of_ip e = kind_asks e.kind (is_some e.src || (is_some e.dst || is_some e.proto)) && (option_map_or has_ports e.proto false || not (is_some e.tp_src || is_some e.tp_dst))
