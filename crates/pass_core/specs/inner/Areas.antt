-- Areas: pairs of a range of sources and a range of destinations. Internal: callers use `Passing`.
use Rattle.std.specs.Prelude.{◌⊎◌, List, [], ◌∷◌, map}
use Rattle.std.specs.List.{flat_map}
use Rattle.host_net.specs.declared.packet.Packet.{Packet}
use Rattle.header_space.specs.declared.packet_box.PacketBox.{PacketBox}
use Rattle.header_space.specs.declared.address_range.AddressRange.{AddressRange}
use Rattle.pass_core.specs.declared.area.Area.{Area}
use Rattle.pass_core.specs.declared.service.Service.{Service}
use Rattle.header_space.specs.Owners.{IsRange, LiesIn}

-- The area is not empty.
abbrev pub IsArea : Area → Type 0
IsArea a = IsRange a.from × IsRange a.to

-- The packet is in the area.
abbrev pub IsInArea : Area → Packet → Type 0
IsInArea a p = LiesIn a.from p.src × LiesIn a.to p.dst

-- The packet is in one of the areas.
abbrev pub IsInOne : List Area → Packet → Type 0
IsInOne [] p = ⊥
IsInOne (a ∷ areas) p = IsInArea a p ⊎ IsInOne areas p

abbrev pub area_between : AddressRange → AddressRange → Area
area_between from to = record { from = from; to = to }

-- The areas between two sets of addresses are the pairs of a range of each.
abbrev pub areas_between : List AddressRange → List AddressRange → List Area
areas_between from to = flat_map (λ source. map (area_between source) to) from

-- The box of the packets of a service in an area.
abbrev pub box_of : Area → Service → PacketBox
box_of a s = record {
  least = record { src = a.from.first; dst = a.to.first; proto = s.proto; sport = 0; dport = s.port };
  greatest = record { src = a.from.last; dst = a.to.last; proto = s.proto; sport = 65535; dport = s.port };
}
