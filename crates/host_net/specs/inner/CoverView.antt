-- The keys of a tuple space index, and their order. Callers obtain `IsIndexOf` from the calls that build an index, and pass it on.
use Rattle.std.specs.Prelude.{◌≡◌, ◌≤◌, ◌<◌, ◌+◌, ◌*◌, ◌^◌, ◌==◌, ◌&&◌, ℕ, Bool, false, nat_le, IsTrue, if◌then◌else◌, min, List, [], ◌∷◌, ◌++◌, length, slice_get, Contains, Option, Some, None}
use Rattle.std.specs.List.{list_any}
use Rattle.std.specs.List.Sorted.{IsNonDecreasingBy}
use Rattle.host_net.specs.declared.tuple_space.TupleSpaceIndex.{TupleSpaceIndex}
use Rattle.host_net.specs.declared.tuple_space.Ends.{Ends}
use Rattle.host_net.specs.declared.tuple_space.Group.{Group}
use Rattle.host_net.specs.declared.tuple_space.Key.{Key}
use Rattle.host_net.specs.declared.tuple_space.Lengths.{Lengths}
use Rattle.host_net.specs.declared.prefix.Prefix.{Prefix}
use Rattle.host_net.specs.Prefix.{front}

-- The length of a prefix: a missing prefix has no significant bits.
abbrev pub length_of : Option Prefix → ℕ
length_of None = 0
length_of (Some p) = p.len

abbrev pub own_address : Option Prefix → ℕ
own_address None = 0
own_address (Some p) = p.addr

abbrev pub lengths_of : Ends → Lengths
lengths_of e = record { src = length_of e.src; dst = length_of e.dst }

-- The key with the leading bits of two addresses.
abbrev pub key_at : Lengths → ℕ → ℕ → ℕ → Key
key_at l src dst place = record { lengths = l; src = front l.src src; dst = front l.dst dst; place = place }

abbrev pub key_of : Ends → ℕ → Key
key_of e place = key_at (lengths_of e) (own_address e.src) (own_address e.dst) place

-- The keys of a list, with indices counted from `place` on.
abbrev pub keys_from : ℕ → List Ends → List Key
keys_from place [] = []
keys_from place (e ∷ es) = key_of e place ∷ keys_from (place + 1) es

-- The number by which keys are sorted.
unfoldable pub rank : Key → ℕ
rank k = (((k.lengths.src * 2 ^ 8 + k.lengths.dst) * 2 ^ 32 + k.src) * 2 ^ 32 + k.dst) * 2 ^ 32 + k.place

pub record SameBits (k l : Key) : Type 0 where
  pub src_length : k.lengths.src ≡ l.lengths.src
  pub dst_length : k.lengths.dst ≡ l.lengths.dst
  pub src : k.src ≡ l.src
  pub dst : k.dst ≡ l.dst

-- The fields of the key fit their integer types.
pub record IsSmall (k : Key) : Type 0 where
  pub dst_length : k.lengths.dst < 2 ^ 8
  pub src : k.src < 2 ^ 32
  pub dst : k.dst < 2 ^ 32
  pub place : k.place < 2 ^ 32

pub record AreInOrder (keys : List Key) : Type 0 where
  pub rise : IsNonDecreasingBy rank keys
  pub small : (k : Key) → Contains keys k → IsSmall k

-- The key with the least index, from `from` on, among those for which `Has` holds.
pub record IsFirstKeyAt (Has : Key → Type 0) (keys : List Key) (from place : ℕ) : Type 0 where
  pub key : Key
  pub among : Contains keys key
  pub has : Has key
  pub there : key.place ≡ place
  pub later : from ≤ place
  pub least : (k : Key) → Contains keys k → Has k → from ≤ k.place → place ≤ k.place

abbrev pub IsFirstKey : (Key → Type 0) → List Key → ℕ → Option ℕ → Type 0
IsFirstKey Has keys from None = (k : Key) → Contains keys k → Has k → from ≤ k.place → ⊥
IsFirstKey Has keys from (Some place) = IsFirstKeyAt Has keys from place

-- A group has these lengths.
abbrev pub has_lengths : List Group → Lengths → Bool
has_lengths groups l = list_any (λ g. (g.lengths.src == l.src) && (g.lengths.dst == l.dst)) groups

-- The groups, with a group for the key added if its lengths are new.
abbrev pub noted : List Group → Key → List Group
noted groups k = if has_lengths groups k.lengths then groups else groups ++ record { lengths = k.lengths; first = k.place } ∷ []

abbrev pub AreListed : List Group → List Key → Type 0
AreListed groups keys = (k : Key) → Contains keys k → IsTrue (has_lengths groups k.lengths)

-- No key with the lengths of the group has an earlier index.
abbrev pub IsFirstOf : Group → List Key → Type 0
IsFirstOf g keys = (k : Key) → Contains keys k → g.lengths ≡ k.lengths → g.first ≤ k.place

-- The index of each group is at most that of every key with its lengths, and at most the next index.
pub record AreFirst (groups : List Group) (keys : List Key) : Type 0 where
  pub first : (g : Group) → Contains groups g → IsFirstOf g keys
  pub begun : (g : Group) → Contains groups g → g.first ≤ length keys

-- The key has the lengths of one of the groups, and the leading bits of the two addresses.
pub record Begins (all : List Group) (src dst : ℕ) (k : Key) : Type 0 where
  pub among : IsTrue (has_lengths all k.lengths)
  pub src_bits : k.src ≡ front k.lengths.src src
  pub dst_bits : k.dst ≡ front k.lengths.dst dst

abbrev pub earlier : Option ℕ → Option ℕ → Option ℕ
earlier None other = other
earlier (Some one) None = Some one
earlier (Some one) (Some other) = Some (min one other)

abbrev pub comes_before : Option ℕ → ℕ → Bool
comes_before None place = false
comes_before (Some one) place = nat_le one place

-- The keys are those of the list, sorted, and the groups are those of the keys.
pub record AreIndexOf (all : List Ends) (keys : List Key) (groups : List Group) : Type 0 where
  pub order : AreInOrder keys
  pub counted : length keys ≡ length all
  pub every : (i : ℕ) (e : Ends) → slice_get all i ≡ Some e → Contains keys (key_of e i)
  pub only : (k : Key) → Contains keys k → (e : Ends) × (slice_get all k.place ≡ Some e) × (k ≡ key_of e k.place)
  pub listed : AreListed groups keys
  pub firsts : AreFirst groups keys

-- The number of `Ends` in the index.
abbrev pub count_in : TupleSpaceIndex → ℕ
count_in index = length index.keys.items

-- The index is built from the list.
abbrev pub IsIndexOf : List Ends → TupleSpaceIndex → Type 0
IsIndexOf all index = AreIndexOf all index.keys.items index.groups.items
