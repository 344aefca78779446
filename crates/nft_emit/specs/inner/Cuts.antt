-- The address space, cut into ranges that one host owns.
use Rattle.std.specs.Prelude.{◌≡◌, ◌⊎◌, ℕ, ◌+◌, ◌<◌, ◌≤◌, ◌^◌, ◌==◌, Bool, false, if◌then◌else◌, List, [], ◌∷◌, Option, Some, None}
use Rattle.host_net.specs.Host.{Host, owner_of, rest_of}
use Rattle.header_space.specs.declared.address_range.AddressRange.{AddressRange}
use Rattle.header_space.specs.Owners.{LiesIn}
use Rattle.nft_emit.specs.declared.cuts.Cut.{Cut}

-- The host of each range owns its addresses.
abbrev pub AreOwned : List Host → List Cut → Type 0
AreOwned hosts [] = Unit {0}
AreOwned hosts (x ∷ xs) = ((a : ℕ) → LiesIn x.range a → owner_of hosts a ≡ Some x.host) × AreOwned hosts xs

-- A range contains the address.
abbrev pub IsCut : List Cut → ℕ → Type 0
IsCut [] a = ⊥
IsCut (x ∷ xs) a = LiesIn x.range a ⊎ IsCut xs a

-- The ranges lie one after the other between `from` and `end`, and none is empty.
abbrev pub LieBetween : ℕ → List Cut → ℕ → Type 0
LieBetween from [] end = from ≤ end
LieBetween from (x ∷ xs) end = (from ≤ x.range.first) × (x.range.first ≤ x.range.last) × LieBetween (x.range.last + 1) xs end

-- The ranges contain the addresses of each host other than the rest host, each with its owner. Other addresses belong to the rest host, or
-- to no host if there is none.
pub record AreCuts (hosts : List Host) (cuts : List Cut) : Type 0 where
  pub owned : AreOwned hosts cuts
  pub covered : (a : ℕ) → a < 2 ^ 32 → (owner_of hosts a ≡ rest_of hosts) ⊎ IsCut cuts a
  pub between : LieBetween 0 cuts (2 ^ 32)

-- The range of an owner, unless the owner is the rest host.
abbrev pub is_same_host : Option ℕ → ℕ → Bool
is_same_host None host = false
is_same_host (Some rest) host = rest == host

abbrev pub cut_if : Option ℕ → Option ℕ → AddressRange → List Cut
cut_if rest None range = []
cut_if rest (Some host) range = if is_same_host rest host then [] else record { range = range; host = host } ∷ []
