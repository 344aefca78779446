-- The address range of a prefix, and the strings that denote a prefix.
use Rattle.std.specs.Prelude.{◌≡◌, ℕ, ◌+◌, ◌*◌, ◌^◌, ◌-◌, List, ◌⊎◌}
use Rattle.host_net.specs.declared.prefix.Prefix.{Prefix}
use Rattle.host_net.specs.Prefix.{front, address_text, prefix_text}

-- The first address of a prefix: its first `len` bits, followed by zeros.
unfoldable pub first_address : Prefix → ℕ
first_address p = front p.len p.addr * 2 ^ (32 - p.len)

-- The last address of a prefix: its first `len` bits, followed by ones.
unfoldable pub last_address : Prefix → ℕ
last_address p = front p.len p.addr * 2 ^ (32 - p.len) + (2 ^ (32 - p.len) - 1)

-- The strings that denote a prefix: its CIDR notation, and, for length 32, its address without a length.
abbrev pub IsSpelling : List ℕ → Prefix → Type 0
IsSpelling text p = (text ≡ prefix_text p) ⊎ ((p.len ≡ 32) × (text ≡ address_text p.addr))
