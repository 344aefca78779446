-- The causes to refuse a host, in order of precedence.
use Rattle.std.specs.Prelude.{ℕ, ◌+◌, Bool, not, ◌||◌, nat_lt, nat_le, if◌then◌else◌, List, [], ◌∷◌, ◌++◌, length, Option, None}
use Rattle.std.specs.List.{position_from}
use Rattle.std.specs.Option.{option_map, option_or}
use Rattle.text_core.specs.Name.{is_name}
use Rattle.text_core.specs.FirstMatch.{first_of, some_if}
use Rattle.host_net.specs.Host.{Host, host_named, rest_of, has_no_address}
use Rattle.host_net.specs.inner.Hosts.{meets_any, prefix_count, prefix_lists}
use Rattle.host_net.specs.Limits.{host_limit, prefix_limit}
use Rattle.host_net.specs.declared.prefix.Prefix.{Prefix}
use Rattle.host_net.specs.declared.refusal.HostRefusal.{HostRefusal}
use Rattle.host_net.specs.declared.refusal.HostRefusal.TheVariants.{TooMany, BadName, Duplicate, NoAddress, TwoRests, Overlap}

-- The host limit is reached, or the prefix limit would be exceeded.
abbrev pub is_full : List Host → ℕ → Bool
is_full hs more = nat_le host_limit (length hs) || nat_lt prefix_limit (prefix_count hs + more)

abbrev pub too_many : List Host → List Prefix → Option HostRefusal
too_many hs at = some_if (is_full hs (length at)) TooMany

abbrev pub bad_name : List ℕ → Option HostRefusal
bad_name name = some_if (not (is_name name)) BadName

-- A host already has the name.
abbrev pub duplicate : List Host → List ℕ → Option HostRefusal
duplicate hs name = option_map Duplicate (host_named hs name)

-- Neither prefixes nor the rest mark are present, or both are.
abbrev pub no_address : List Prefix → Bool → Option HostRefusal
no_address at rest = some_if (has_no_address at rest) NoAddress

-- The host is a second rest host.
abbrev pub two_rests : List Host → Bool → Option HostRefusal
two_rests hs rest = if rest then option_map TwoRests (rest_of hs) else None

-- The host of the earliest prefix that overlaps p: a host whose prefixes are in `owned`, or the host after them, whose prefixes before p
-- are `own`.
abbrev pub meeting : List (List Prefix) → List Prefix → Prefix → Option ℕ
meeting owned own p = position_from (λ ps. meets_any ps p) 0 (owned ++ own ∷ [])

-- The first prefix that overlaps an earlier one.
abbrev pub overlap_from : List (List Prefix) → List Prefix → List Prefix → Option HostRefusal
overlap_from owned own [] = None
overlap_from owned own (p ∷ ps) =
    option_or (option_map (λ other. Overlap (length own) other) (meeting owned own p)) (overlap_from owned (own ++ p ∷ []) ps)

abbrev pub overlap : List Host → List Prefix → Option HostRefusal
overlap hs at = overlap_from (prefix_lists hs) [] at

-- The cause to refuse a host with this name, these prefixes and this rest mark, if there is one.
unfoldable pub refusal_of : List Host → List ℕ → List Prefix → Bool → Option HostRefusal
refusal_of hs name at rest =
    first_of (too_many hs at ∷ bad_name name ∷ duplicate hs name ∷ no_address at rest ∷ two_rests hs rest ∷ overlap hs at ∷ [])
