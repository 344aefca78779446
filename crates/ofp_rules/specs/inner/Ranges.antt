-- The ranges of the numbers of an entry: 16 bits for a priority or a port, 32 for an address, 8 for a protocol.
use Rattle.std.specs.Prelude.{ℕ, ◌^◌, Bool, true, ◌&&◌, nat_lt, IsTrue, List, Option, Some, None}
use Rattle.std.specs.List.{list_all}
use Rattle.host_net.specs.declared.prefix.Prefix.{Prefix}
use Rattle.ofp_rules.specs.declared.entry.Entry.{Entry}

-- The address of a prefix has at most 32 bits.
abbrev pub address_fits : Option Prefix → Bool
address_fits None = true
address_fits (Some prefix) = nat_lt prefix.addr (2 ^ 32)

-- The number of a field, if there is one, is below the limit.
abbrev pub number_fits : ℕ → Option ℕ → Bool
number_fits limit None = true
number_fits limit (Some n) = nat_lt n limit

abbrev pub in_range : Entry → Bool
in_range e =
    nat_lt e.priority (2 ^ 16)
    && (number_fits (2 ^ 8) e.proto
    && (number_fits (2 ^ 16) e.tp_src && (number_fits (2 ^ 16) e.tp_dst && (address_fits e.src && address_fits e.dst))))

abbrev pub AreInRange : List Entry → Type 0
AreInRange entries = IsTrue (list_all in_range entries)
