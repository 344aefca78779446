-- Construction of the list of services by pair. Internal: callers use `Pairs`.
use Rattle.std.specs.Prelude.{◌≡◌, ◌++◌, ℕ, List}
use Rattle.std.specs.List.{All}
use Rattle.host_net.specs.declared.packet.Packet.{Packet}
use Rattle.host_net.specs.Packet.{IsPacket}
use Rattle.header_space.specs.declared.address_range.AddressRange.{AddressRange}
use Rattle.pass_core.specs.declared.pairs.PairServices.{PairServices}
use Rattle.header_space.specs.Owners.{IsRange, LiesInOne}
use Rattle.pass_core.specs.declared.area.Area.{Area}
use Rattle.pass_core.specs.inner.Areas.{IsInArea}

-- The new list is the old list followed by a list with the property.
abbrev pub IsAdded : (List PairServices → Type 0) → (old new : List PairServices) → Type 0
IsAdded Listed old new = (one : List PairServices) × (new ≡ old ++ one) × Listed one

-- Some selected packet passes.
abbrev pub PassesSome : (Packet → Type 0) → (Packet → Type 0) → Type 0
PassesSome Holds Between = (p : Packet) × Between p × Holds p

-- The packet is in the area.
pub record IsPacketIn (area : Area) (p : Packet) : Type 0 where
  pub packet : IsPacket p
  pub inside : IsInArea area p

-- The range of all addresses.
abbrev pub every_address : AddressRange
every_address = record { first = 0; last = 4294967295 }

-- The sources are a subset of the ranges, and contain each source address of the ranges from which some packet passes.
pub record AreSources (Holds : Packet → Type 0) (ranges sources : List AddressRange) : Type 0 where
  pub each : All IsRange sources
  pub within : (a : ℕ) → LiesInOne sources a → LiesInOne ranges a
  pub covered : (p : Packet) → IsPacket p → LiesInOne ranges p.src → Holds p → LiesInOne sources p.src
