-- Packets of a range of services: between two ranges of addresses, or between two sets of addresses.
use Rattle.std.specs.Prelude.{ℕ, ◌≤◌, List}
use Rattle.host_net.specs.declared.packet.Packet.{Packet}
use Rattle.host_net.specs.Packet.{IsPacket}
use Rattle.header_space.specs.declared.address_range.AddressRange.{AddressRange}
use Rattle.header_space.specs.Owners.{GoesBetween, LiesIn}
use Rattle.pass_core.specs.Services.{service_of}

-- The packet goes from one range of addresses to another, and its service is from `first` to `last`.
pub record HasServiceFrom (from to : AddressRange) (first last : ℕ) (p : Packet) : Type 0 where
  pub packet : IsPacket p
  pub src : LiesIn from p.src
  pub dst : LiesIn to p.dst
  pub low : first ≤ service_of p
  pub high : service_of p ≤ last

-- The packet goes from one set of addresses to another, and its service is from `first` to `last`.
pub record HasServiceBetween (from to : List AddressRange) (first last : ℕ) (p : Packet) : Type 0 where
  pub between : GoesBetween from to p
  pub low : first ≤ service_of p
  pub high : service_of p ≤ last
