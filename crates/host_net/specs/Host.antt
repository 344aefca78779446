-- Hosts in order of declaration, and the owner of an address. The number of a host is its index in the list, from 0.
use Rattle.std.specs.Prelude.{ℕ, Bool, not, List, [], ◌∷◌, Option}
use Rattle.std.specs.List.{list_any, position_from}
use Rattle.std.specs.Option.{option_or}
use Rattle.std.specs.Str.{bytes_eq}
use Rattle.host_net.specs.Prefix.{covers}
use Rattle.host_net.specs.declared.prefix.Prefix.{Prefix}

-- A host has a name, a list of prefixes, and a flag that marks the rest host.
pub record Host : Type 0 where
  pub name : List ℕ
  pub prefixes : List Prefix
  pub rest : Bool

-- One of the prefixes covers the address.
abbrev pub covers_any : List Prefix → ℕ → Bool
covers_any ps a = list_any (λ p. covers p a) ps

-- The number of the first host with the name.
abbrev pub host_named : List Host → List ℕ → Option ℕ
host_named hs name = position_from (λ h. bytes_eq name h.name) 0 hs

-- The number of the first host that has a prefix which covers the address.
abbrev pub prefix_owner_of : List Host → ℕ → Option ℕ
prefix_owner_of hs a = position_from (λ h. covers_any h.prefixes a) 0 hs

-- The number of the first host that is marked as the rest host.
abbrev pub rest_of : List Host → Option ℕ
rest_of hs = position_from (λ h. h.rest) 0 hs

-- The owner of an address: the host with a prefix that covers it, otherwise the rest host, otherwise `None`.
unfoldable pub owner_of : List Host → ℕ → Option ℕ
owner_of hs a = option_or (prefix_owner_of hs a) (rest_of hs)

-- A host has neither prefix entries (valid or not) nor the rest mark, or it has both.
abbrev pub has_no_address : {A : Type 0} → List A → Bool → Bool
has_no_address [] rest = not rest
has_no_address (entry ∷ entries) rest = rest
