-- Invariants of the hosts of a network, regardless of how they were added (the description's format, docs/FORMATS.md).
use Rattle.std.specs.Prelude.{◌≤◌, Bool, not, ◌&&◌, nat_le, nat_lt, ◌^◌, IsTrue, List, length, ℕ, map}
use Rattle.std.specs.List.{list_all, list_any, sum_by}
use Rattle.std.specs.Str.{bytes_eq}
use Rattle.text_core.specs.inner.Pairs.{no_pair}
use Rattle.text_core.specs.Name.{is_name}
use Rattle.host_net.specs.Host.{Host, has_no_address}
use Rattle.host_net.specs.Limits.{host_limit, prefix_limit}
use Rattle.host_net.specs.Prefix.{is_exact, meets}
use Rattle.host_net.specs.declared.prefix.Prefix.{Prefix}
use Rattle.host_net.specs.Hosts.{all_prefixes}

-- One of the prefixes shares an address with p.
abbrev pub meets_any : List Prefix → Prefix → Bool
meets_any ps p = list_any (meets p) ps

-- The prefixes of each host, in order of the hosts.
abbrev pub prefix_lists : List Host → List (List Prefix)
prefix_lists hs = map (λ h. h.prefixes) hs

-- The number of prefixes of all hosts.
abbrev pub prefix_count : List Host → ℕ
prefix_count hs = sum_by (λ h. length h.prefixes) hs

-- A prefix that a host may own: its address has 32 bits, no bit is set after its length, and its length is at least 1.
abbrev pub is_network : Prefix → Bool
is_network p = nat_lt p.addr (2 ^ 32) && (is_exact p && nat_le 1 p.len)

-- The hosts are valid: their number and the number of their prefixes are within the limits; names are distinct; each
-- host has either prefixes or the rest mark; at most one has the mark; the prefixes are networks and pairwise disjoint.
pub record IsHosts (hs : List Host) : Type 0 where
  pub few : length hs ≤ host_limit
  pub few_prefixes : prefix_count hs ≤ prefix_limit
  pub named : IsTrue (list_all (λ h. is_name h.name) hs)
  pub distinct : IsTrue (no_pair (λ h g. bytes_eq h.name g.name) hs)
  pub addressed : IsTrue (list_all (λ h. not (has_no_address h.prefixes h.rest)) hs)
  pub one_rest : IsTrue (no_pair (λ h g. h.rest && g.rest) hs)
  pub networks : IsTrue (list_all is_network (all_prefixes hs))
  pub apart : IsTrue (no_pair meets (all_prefixes hs))
