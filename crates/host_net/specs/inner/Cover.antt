-- The first entry of a list, each an optional source and destination prefix, that covers both addresses of a packet.
use Rattle.std.specs.Prelude.{◌≡◌, ◌≤◌, ◌<◌, ℕ, Bool, true, false, ◌&&◌, IsTrue, List, length, slice_get, Option, Some, None}
use Rattle.host_net.specs.declared.tuple_space.Ends.{Ends}
use Rattle.host_net.specs.declared.prefix.Prefix.{Prefix}
use Rattle.host_net.specs.Prefix.{covers}

-- The prefix covers the address. A missing prefix covers every address.
abbrev pub part_covers : Option Prefix → ℕ → Bool
part_covers None a = true
part_covers (Some p) a = covers p a

-- The prefixes cover both addresses.
abbrev pub covers_both : ℕ → ℕ → Ends → Bool
covers_both src dst e = part_covers e.src src && part_covers e.dst dst

-- No entry from index `from` on and before index `to` covers both addresses.
abbrev pub NoneCovers : List Ends → ℕ → ℕ → ℕ → ℕ → Type 0
NoneCovers all from to src dst =
    (i : ℕ) (e : Ends) → from ≤ i → i < to → slice_get all i ≡ Some e → covers_both src dst e ≡ false

-- The entry at index `place` covers both addresses, and no entry before it, from index `from` on, does.
pub record IsFirstAt (all : List Ends) (from src dst place : ℕ) : Type 0 where
  pub ends : Ends
  pub there : slice_get all place ≡ Some ends
  pub covers : IsTrue (covers_both src dst ends)
  pub later : from ≤ place
  pub first : NoneCovers all from place src dst

-- The first index, from `from` on, whose entry covers both addresses, if there is one.
abbrev pub IsFirstFrom : List Ends → ℕ → ℕ → ℕ → Option ℕ → Type 0
IsFirstFrom all from src dst None = NoneCovers all from (length all) src dst
IsFirstFrom all from src dst (Some place) = IsFirstAt all from src dst place
