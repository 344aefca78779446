-- Owners of addresses, the address ranges of each owner, and the packets between owners and between ranges.
use Rattle.std.specs.Prelude.{◌≡◌, ◌⊎◌, ℕ, ◌+◌, ◌<◌, ◌≤◌, ◌^◌, List, [], ◌∷◌, Option, Some, None, map}
use Rattle.std.specs.List.{All}
use Rattle.host_net.specs.declared.packet.Packet.{Packet}
use Rattle.host_net.specs.Host.{Host, owner_of}
use Rattle.host_net.specs.Packet.{IsPacket}
use Rattle.header_space.specs.declared.address_range.AddressRange.{AddressRange}
use Rattle.header_space.specs.declared.owners.Owned.{Owned}

-- ---- Ranges of addresses

-- The range is non-empty.
abbrev pub IsRange : AddressRange → Type 0
IsRange range = range.first ≤ range.last

-- The address lies in the range.
abbrev pub LiesIn : AddressRange → ℕ → Type 0
LiesIn range a = (range.first ≤ a) × (a ≤ range.last)

-- The address lies in one of the ranges.
abbrev pub LiesInOne : List AddressRange → ℕ → Type 0
LiesInOne [] a = ⊥
LiesInOne (range ∷ ranges) a = LiesIn range a ⊎ LiesInOne ranges a

-- Packet p goes from an address in the ranges `from` to an address in the ranges `to`.
pub record GoesBetween (from to : List AddressRange) (p : Packet) : Type 0 where
  pub packet : IsPacket p
  pub src : LiesInOne from p.src
  pub dst : LiesInOne to p.dst

-- ---- Owners

-- The owners of addresses are the hosts in order, numbered from i, and then `None`, which owns the addresses of no host.
abbrev pub owners_from : ℕ → List Host → List (Option ℕ)
owners_from i [] = None ∷ []
owners_from i (h ∷ hs) = Some i ∷ owners_from (i + 1) hs

-- All owners of addresses, in order.
abbrev pub owners_of : List Host → List (Option ℕ)
owners_of hosts = owners_from 0 hosts

-- Packet p belongs to the pair: `from` owns its source, and `to` owns its destination.
pub record IsOfPair (hosts : List Host) (from to : Option ℕ) (p : Packet) : Type 0 where
  pub packet : IsPacket p
  pub src : owner_of hosts p.src ≡ from
  pub dst : owner_of hosts p.dst ≡ to

-- ---- Ranges of owners

-- The range is non-empty, and the owner owns all of its addresses.
pub record IsRangeOf (hosts : List Host) (owner : Option ℕ) (range : AddressRange) : Type 0 where
  pub some : IsRange range
  pub owned : (a : ℕ) → LiesIn range a → owner_of hosts a ≡ owner

-- The ranges contain exactly the addresses of the owner, and each range is non-empty.
pub record HaveAddresses (hosts : List Host) (owner : Option ℕ) (ranges : List AddressRange) : Type 0 where
  pub owned : All (IsRangeOf hosts owner) ranges
  pub covered : (a : ℕ) → a < 2 ^ 32 → owner_of hosts a ≡ owner → LiesInOne ranges a

-- The ranges of x contain exactly the addresses of its owner.
abbrev pub IsOwned : List Host → Owned → Type 0
IsOwned hosts x = HaveAddresses hosts x.owner x.ranges.items

-- Each range of x is non-empty.
abbrev pub HasRanges : Owned → Type 0
HasRanges x = All IsRange x.ranges.items

-- The list has the owners in order, and each of them with the ranges of its addresses.
pub record AreOwned (hosts : List Host) (owned : List Owned) : Type 0 where
  pub owners : map (λ x. x.owner) owned ≡ owners_of hosts
  pub each : All (IsOwned hosts) owned
