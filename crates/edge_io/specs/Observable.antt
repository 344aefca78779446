-- The observable files of a shelf: `Some` of a map, or `None` if they are not observable; and the observable bytes of a sink. Observable
-- bytes are `Some` of a list or `None`; std defines what such bytes lose and gain.
use Rattle.std.specs.Prelude.{◌≡◌, ℕ, Option, None, List, IsSomeAnd, ◌≤◌, length, take}
use Rattle.std.specs.Ordering.{nat_cmp}
use Rattle.std.specs.Cmp.Lexicographic.{slice_cmp}
use Rattle.std.specs.FinMap.{FinMap, get}
use Rattle.std.specs.Io.KnownBytes.{append_known}

-- The bytes of each file, by the bytes of its name.
abbrev pub Files : Type 0
Files = FinMap (slice_cmp nat_cmp) (List ℕ)

-- The files of the shelf are observable, and none has that name.
abbrev pub Lacks : Option Files → List ℕ → Type 0
Lacks told name = IsSomeAnd told (λ files. get files name ≡ None)

-- The sink accepted a prefix of the bytes, and nothing else.
pub record AppendsPrefixOf (old new : Option (List ℕ)) (bytes : List ℕ) : Type 0 where
  pub count : ℕ
  pub within : count ≤ length bytes
  pub taken : new ≡ append_known old (take count bytes)
