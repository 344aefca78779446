-- The meaning of an overlap refusal for the prefixes of a new host.
use Rattle.std.specs.Prelude.{◌≡◌, ℕ, ◌≤◌, IsTrue, List, [], ◌∷◌, ◌++◌, Some, take, slice_get}
use Rattle.host_net.specs.Host.{Host}
use Rattle.host_net.specs.inner.Hosts.{meets_any, prefix_lists}
use Rattle.host_net.specs.declared.prefix.Prefix.{Prefix}

-- The prefixes before the one at index k of a new host, host by host: those of the other hosts, and the first k of the new host.
abbrev pub earlier : List Host → List Prefix → ℕ → List (List Prefix)
earlier hs at k = prefix_lists hs ++ take k at ∷ []

-- The prefix at index k shares an address with an earlier prefix, of host j.
pub record HasPartner (hs : List Host) (at : List Prefix) (k j : ℕ) : Type 0 where
  pub prefix : Prefix
  pub there : slice_get at k ≡ Some prefix
  pub owned : List Prefix
  pub host : slice_get (earlier hs at k) j ≡ Some owned
  pub meet : IsTrue (meets_any owned prefix)

-- `item` is the index of the first prefix that shares an address with an earlier one, and `other` is the first host
-- with such an earlier prefix.
pub record IsFirstOverlap (hs : List Host) (at : List Prefix) (item other : ℕ) : Type 0 where
  pub partner : HasPartner hs at item other
  pub first_place : (k j : ℕ) → HasPartner hs at k j → item ≤ k
  pub first_host : (j : ℕ) → HasPartner hs at item j → other ≤ j
