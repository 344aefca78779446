-- The topological order of the chains of a rule set: each jump goes to an earlier chain. These definitions are internal;
-- callers use the postconditions of `build`.
use Rattle.std.specs.Prelude.{◌≡◌, ℕ, ◌+◌, ◌<◌, ◌≤◌, List, [], Bool, true, Option, Some, None, length, slice_get, Contains, is_none, count_by, map, not, ◌⊎◌}
use Rattle.ipt_rules.specs.Chain.{Chain}
use Rattle.ipt_rules.specs.ChainTable.{chain_limit}
use Rattle.ipt_rules.specs.Loops.{jumps_of, jumps_from}

-- The chains that each chain jumps to.
abbrev pub jump_table : List Chain → List (List ℕ)
jump_table chains = map (λ x. jumps_of x.rules) chains

abbrev pub row_in : Option (List ℕ) → List ℕ
row_in None = []
row_in (Some row) = row

-- The row of chain c.
abbrev pub row_of : List (List ℕ) → ℕ → List ℕ
row_of table c = row_in (slice_get table c)

abbrev pub place_in : Option (Option ℕ) → Option ℕ
place_in None = None
place_in (Some place) = place

-- The position of chain c in the order, if it has one.
abbrev pub place_of : List (Option ℕ) → ℕ → Option ℕ
place_of places c = place_in (slice_get places c)

-- Chain c has a position before i.
pub record IsBefore (places : List (Option ℕ)) (c i : ℕ) : Type 0 where
  pub place : ℕ
  pub placed : place_of places c ≡ Some place
  pub before : place < i

-- Each chain of the order exists, each position of a chain is its index in the order, and each jump of a chain of the order
-- goes to a chain before it.
pub record IsOrder (next : ℕ → List ℕ) (count : ℕ) (order : List ℕ) (places : List (Option ℕ)) : Type 0 where
  pub inside : (i c : ℕ) → slice_get order i ≡ Some c → c < count
  pub there : (c i : ℕ) → place_of places c ≡ Some i → slice_get order i ≡ Some c
  pub back : (i c d : ℕ) → slice_get order i ≡ Some c → Contains (next c) d → IsBefore places d i

-- The order contains every chain.
pub record IsTopologicalOrder (next : ℕ → List ℕ) (count : ℕ) (order : List ℕ) (places : List (Option ℕ)) : Type 0 where
  pub ordered : IsOrder next count order places
  pub short : length order ≤ count
  pub every : (c : ℕ) → c < count → IsBefore places c (length order)

-- The chains have an order that contains all of them.
pub record HasTopologicalOrder (chains : List Chain) : Type 0 where
  pub order : List ℕ
  pub places : List (Option ℕ)
  pub is : IsTopologicalOrder (jumps_from chains) (length chains) order places

-- The mark at i is set.
abbrev pub IsSet : List Bool → ℕ → Type 0
IsSet marks i = slice_get marks i ≡ Some true

-- The invariant of an order under construction: it is an order; the examined jumps, which are the first jumps of each row, all
-- go to chains that have positions; and the order has as many chains as there are chains with a position.
pub record IsPartOrder (table : List (List ℕ)) (order : List ℕ) (places : List (Option ℕ)) (looked : List ℕ) : Type 0 where
  pub ordered : IsOrder (row_of table) (length table) order places
  pub few : length table ≤ chain_limit
  pub all_places : length places ≡ length table
  pub all_looked : length looked ≡ length table
  pub counted : length order + count_by is_none places ≡ length table
  pub within : (c k : ℕ) → slice_get looked c ≡ Some k → k ≤ length (row_of table c)
  pub passed : (c k i d : ℕ) → slice_get looked c ≡ Some k → i < k → slice_get (row_of table c) i ≡ Some d
      → IsBefore places d (length order)

-- Chain c jumps to a chain that has no position.
pub record IsStuck (table : List (List ℕ)) (places : List (Option ℕ)) (c : ℕ) : Type 0 where
  pub other : ℕ
  pub jumps : Contains (row_of table c) other
  pub placeless : place_of places other ≡ None

-- Each number of the row is marked, and added to the remaining numbers if it was not marked before. Nothing else has changed.
pub record Visits (row : List ℕ) (seen : List Bool) (left : List ℕ) (seen_then : List Bool) (left_then : List ℕ) : Type 0 where
  pub long : length seen_then ≡ length seen
  pub measure : length left_then + count_by not seen_then ≡ length left + count_by not seen
  pub grows : (d : ℕ) → IsSet seen d → IsSet seen_then d
  pub marks : (d : ℕ) → Contains row d → IsSet seen_then d
  pub only : (d : ℕ) → IsSet seen_then d → IsSet seen d ⊎ (Contains row d × Contains left_then d)
  pub kept : (d : ℕ) → Contains left d → Contains left_then d
  pub fresh : (d : ℕ) → Contains left_then d → Contains left d ⊎ Contains row d
