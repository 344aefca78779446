-- IPv4 prefixes: the addresses that they cover, and their notation (RFC 4632, section 3.1).
use Rattle.std.specs.Prelude.{ℕ, ◌+◌, ◌*◌, ◌/◌, ◌%◌, ◌^◌, ◌-◌, min, Bool, ◌==◌, ◌&&◌, ◌||◌, List, ◌++◌, take, slice_index_or, fold, decimal, codes, bytes_eq, Option}
use Rattle.std.proofs.Math.Nat.{min-le_right}
use Rattle.text_core.specs.Decimal.{numbers_in}
use Rattle.text_core.specs.FirstMatch.{some_if}
use Rattle.host_net.specs.declared.prefix.Prefix.{Prefix}

-- The first `len` bits of an address.
abbrev pub front : ℕ → ℕ → ℕ
front len a = a / 2 ^ (32 - len)

-- A prefix covers an address if the two agree in the first `len` bits.
unfoldable pub covers : Prefix → ℕ → Bool
covers p a = front p.len p.addr == front p.len a

-- A prefix is exact if all bits after the first `len` are 0.
unfoldable pub is_exact : Prefix → Bool
is_exact p = p.addr % 2 ^ (32 - p.len) == 0

-- Two prefixes overlap if they agree in the bits that are significant for both.
unfoldable pub meets : Prefix → Prefix → Bool
meets p q = front (min p.len q.len) p.addr == front (min p.len q.len) q.addr

-- The octet of an address whose lowest bit is at index `place`, counted from the least significant bit.
unfoldable pub octet : ℕ → ℕ → ℕ
octet a place = a / 2 ^ place % 256

-- An address in dotted decimal notation.
unfoldable pub address_text : ℕ → List ℕ
address_text a =
    decimal (octet a 24) ++ (codes "." ++ (decimal (octet a 16) ++ (codes "." ++ (decimal (octet a 8) ++ (codes "." ++ decimal (octet a 0))))))

-- A prefix in CIDR notation: the address, a slash, the length.
unfoldable pub prefix_text : Prefix → List ℕ
prefix_text p = address_text p.addr ++ (codes "/" ++ decimal p.len)

-- The prefix of an address with the given length, at most 32.
abbrev pub prefix_with : ℕ → ℕ → Prefix
prefix_with a len = record { addr = a; len = min len 32; fits = min-le_right len 32 }

-- A string denotes a prefix if it is its CIDR notation, or, for length 32, its address without a length.
abbrev pub spells : List ℕ → Prefix → Bool
spells text p = bytes_eq text (prefix_text p) || ((p.len == 32) && bytes_eq text (address_text p.addr))

-- The address of four octets.
abbrev pub address_with : List ℕ → ℕ
address_with octets = fold (λ a octet. a * 256 + octet) 0 octets

-- The prefix that a string denotes. The only candidate is the prefix of the numbers in the string.
unfoldable pub prefix_of : List ℕ → Option Prefix
prefix_of text =
    let ns = numbers_in text in
    let p = prefix_with (address_with (take 4 ns)) (slice_index_or ns 4 32) in
    some_if (spells text p) p
