-- The chains of a layout: how many there are, and their names. Other chains can be added to them.
use Rattle.std.specs.Prelude.{◌≡◌, ◌⊎◌, ℕ, List, ◌++◌, Some, slice_get, codes}
use Rattle.nft_rules.specs.declared.table.Chain.{Chain}

-- The greatest number of chains: for each of 256 hosts, its own chain and a chain for the services of each receiver.
abbrev pub layout_limit : ℕ
layout_limit = 65792

-- The name begins with `services_` or with `from_`.
abbrev pub IsLayoutName : List ℕ → Type 0
IsLayoutName name = ((index : List ℕ) × (name ≡ codes "services_" ++ index)) ⊎ ((host : List ℕ) × (name ≡ codes "from_" ++ host))

abbrev pub HaveLayoutNames : List Chain → Type 0
HaveLayoutNames chains = (c : ℕ) (x : Chain) → slice_get chains c ≡ Some x → IsLayoutName x.name.items
