-- The addresses of hosts as ranges, and the relation between the hosts and their sorted ranges.
use Rattle.std.specs.Prelude.{◌≡◌, ℕ, Bool, true, ◌&&◌, nat_le, nat_lt, if◌then◌else◌, IsTrue, List, [], ◌∷◌, Option, Some, None}
use Rattle.std.specs.List.{list_all}
use Rattle.host_net.specs.Host.{Host, prefix_owner_of}
use Rattle.host_net.specs.declared.ranges.Range.{Range}

-- The address is in the range.
abbrev pub holds : Range → ℕ → Bool
holds r a = nat_le r.first a && nat_le a r.last

-- The host of the first range that contains the address.
abbrev pub holder_among : List Range → ℕ → Option ℕ
holder_among [] a = None
holder_among (r ∷ rs) a = if holds r a then Some r.host else holder_among rs a

-- Each range is nonempty and precedes all ranges that follow it.
abbrev pub is_ordered : List Range → Bool
is_ordered [] = true
is_ordered (r ∷ rs) = nat_le r.first r.last && (list_all (λ s. nat_lt r.last s.first) rs && is_ordered rs)

-- The sorted, disjoint ranges of all prefixes of the hosts: a range contains an address if and only if a prefix covers it, and the range
-- has the number of the prefix's host.
pub record AreRanges (hs : List Host) (rs : List Range) : Type 0 where
  pub ordered : IsTrue (is_ordered rs)
  pub held : (a : ℕ) → holder_among rs a ≡ prefix_owner_of hs a
