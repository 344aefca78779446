-- The entries that a search skips, by the addresses that they match on. Not visible to callers, which use `Meaning`.
use Rattle.std.specs.Prelude.{◌≡◌, ◌≤◌, ◌<◌, ℕ, Bool, false, List, map, length, slice_get, Option, Some, None}
use Rattle.host_net.specs.declared.tuple_space.Ends.{Ends}
use Rattle.host_net.specs.declared.prefix.Prefix.{Prefix}
use Rattle.ofp_rules.specs.declared.entry.Entry.{Entry}
use Rattle.ofp_rules.specs.declared.entry.Frame.{Frame}
use Rattle.ofp_rules.specs.declared.entry.Frame.TheVariants.{Arp, Ipv4, Other}
use Rattle.ofp_rules.specs.declared.entry.FrameKind.{FrameKind}
use Rattle.ofp_rules.specs.declared.entry.FrameKind.TheVariants.{Any as OfAny, Arp as OfArp, Ip as OfIp}

-- Only an entry for IPv4 matches on addresses.
abbrev pub kind_ends : FrameKind → Option Prefix → Option Prefix → Ends
kind_ends OfAny src dst = record { src = None; dst = None }
kind_ends OfArp src dst = record { src = None; dst = None }
kind_ends OfIp src dst = record { src = src; dst = dst }

abbrev pub ends_of : Entry → Ends
ends_of e = kind_ends e.kind e.src e.dst

abbrev pub all_ends : List Entry → List Ends
all_ends entries = map ends_of entries

-- A frame without addresses has the address 0.
abbrev pub source_of : Frame → ℕ
source_of Arp = 0
source_of (Ipv4 packet) = packet.src
source_of Other = 0

abbrev pub destination_of : Frame → ℕ
destination_of Arp = 0
destination_of (Ipv4 packet) = packet.dst
destination_of Other = 0

-- No entry with an index of at least `from` and below `to` matches.
abbrev pub NoneMatches : (Entry → Bool) → List Entry → ℕ → ℕ → Type 0
NoneMatches by entries from to = (i : ℕ) (e : Entry) → from ≤ i → i < to → slice_get entries i ≡ Some e → by e ≡ false

-- Index `at` is at least `from` and within the list, and no entry with an index of at least `from` and below `at` matches.
pub record IsNextAt (by : Entry → Bool) (entries : List Entry) (from at : ℕ) : Type 0 where
  pub later : from ≤ at
  pub within : at < length entries
  pub passed : NoneMatches by entries from at

abbrev pub IsNext : (Entry → Bool) → List Entry → ℕ → Option ℕ → Type 0
IsNext by entries from None = NoneMatches by entries from (length entries)
IsNext by entries from (Some at) = IsNextAt by entries from at
