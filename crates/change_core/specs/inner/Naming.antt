-- Owners under two descriptions by number, with the ranges of their addresses. Internal: callers use `Names`.
use Rattle.std.specs.Prelude.{◌≡◌, ℕ, ◌<◌, ◌-◌, ◌^◌, if◌then◌else◌, List, [], ◌∷◌, Option, Some, None, length, map, nat_lt}
use Rattle.std.specs.List.{All}
use Rattle.host_net.specs.Host.{Host}
use Rattle.header_space.specs.declared.address_range.AddressRange.{AddressRange}
use Rattle.header_space.specs.declared.owners.Owned.{Owned}
use Rattle.header_space.specs.Owners.{IsRange, LiesIn, LiesInOne}
use Rattle.change_core.specs.declared.named_owner.NamedOwner.{NamedOwner}
use Rattle.change_core.specs.declared.named_owner.NamedOwner.TheVariants.{New, Old, Nobody}
use Rattle.change_core.specs.Names.{all_names, named_owner}

-- The owner with the number, if the new description has n hosts: its hosts have the numbers below n, and the hosts of the old description
-- the numbers from n on.
abbrev pub name_of : ℕ → Option ℕ → NamedOwner
name_of n None = Nobody
name_of n (Some k) = if nat_lt k n then New k else Old (k - n)

-- The range is not empty, and the owner owns all of its addresses.
pub record IsRangeNamed (new old : List Host) (owner : NamedOwner) (range : AddressRange) : Type 0 where
  pub some : IsRange range
  pub owned : (a : ℕ) → LiesIn range a → named_owner new old a ≡ owner

-- The range ends before the first range of the list, if there is one.
abbrev pub IsBefore : AddressRange → List AddressRange → Type 0
IsBefore range [] = Unit {0}
IsBefore range (next ∷ ranges) = range.last < next.first

-- The ranges are ascending and disjoint.
abbrev pub AreAscending : List AddressRange → Type 0
AreAscending [] = Unit {0}
AreAscending (range ∷ ranges) = IsBefore range ranges × AreAscending ranges

-- The ranges contain exactly the addresses of the owner, in ascending order.
pub record HaveNamed (new old : List Host) (owner : NamedOwner) (ranges : List AddressRange) : Type 0 where
  pub owned : All (IsRangeNamed new old owner) ranges
  pub covered : (a : ℕ) → a < 2 ^ 32 → named_owner new old a ≡ owner → LiesInOne ranges a
  pub ascending : AreAscending ranges

-- The owner, determined by its number.
abbrev pub name_in : List Host → Owned → NamedOwner
name_in new x = name_of (length new) x.owner

-- The owner has the ranges of its addresses.
abbrev pub IsNamed : (new old : List Host) → Owned → Type 0
IsNamed new old x = HaveNamed new old (name_in new x) x.ranges.items

-- The list has all owners in their order, each with the ranges of its addresses.
pub record AreNamed (new old : List Host) (owned : List Owned) : Type 0 where
  pub names : map (name_in new) owned ≡ all_names new old
  pub each : All (IsNamed new old) owned
