-- Owners under an old description of the addresses that the hosts of a new description own. Internal: callers use `Weaker`.
use Rattle.std.specs.Prelude.{◌≡◌, ◌↔◌, ℕ, ◌<◌, ◌^◌, Bool, if◌then◌else◌, List, [], Option, Some, None, IsTrue, length, slice_get, slice_index_or}
use Rattle.std.specs.List.{AllPairs, Contains}
use Rattle.std.specs.Option.{option_map_or}
use Rattle.std.specs.FinSet as set
use Rattle.std.specs.Global.{Global}
use Rattle.std.specs.declared.vec.Vec.{Vec}
use Rattle.host_net.specs.Host.{Host, owner_of}
use Rattle.flow_set.specs.declared.flow.Flow.{Flow}
use Rattle.flow_set.specs.FlowSet.{has}
use Rattle.change_core.specs.declared.sharing.Sharing.{Sharing}

-- Host i of the new description owns an address below `end` that has the owner under the old description.
abbrev pub SharesBelow : (new old : List Host) → (end i : ℕ) → Option ℕ → Type 0
SharesBelow new old end i owner = (a : ℕ) × (a < end) × (owner_of new a ≡ Some i) × (owner_of old a ≡ owner)

-- Host i of the new description owns an address that has the owner under the old description.
abbrev pub Shares : (new old : List Host) → ℕ → Option ℕ → Type 0
Shares new old i owner = SharesBelow new old (2 ^ 32) i owner

-- The table has the owner in the row of host i.
abbrev pub is_marked : Sharing → ℕ → Option ℕ → Bool
is_marked sharing i None = set.contains sharing.beyond i
is_marked sharing i (Some k) = set.contains (slice_index_or sharing.hosts.items i set.empty) k

-- The table has exactly the owners of the addresses below `end`.
pub record AreMarked (new old : List Host) (end : ℕ) (sharing : Sharing) : Type 0 where
  pub counted : length sharing.hosts.items ≡ length new
  pub marked : (i : ℕ) (owner : Option ℕ) → (IsTrue (is_marked sharing i owner) ↔ SharesBelow new old end i owner)

-- The order of owners: the hosts by number, then `None`.
abbrev pub OwnerBefore : (left right : Option ℕ) → Type 0
OwnerBefore None right = ⊥
OwnerBefore (Some i) None = Unit {0}
OwnerBefore (Some i) (Some j) = i < j

-- The list has exactly the owners of the addresses of host i, in ascending order.
pub record AreSharers (new old : List Host) (i : ℕ) (owners : List (Option ℕ)) : Type 0 where
  pub ascending : AllPairs OwnerBefore owners
  pub exact : (owner : Option ℕ) → (Contains owners owner ↔ Shares new old i owner)

-- The row of host i, or an empty row if there is none.
abbrev pub row_at : List (Vec (Option ℕ) Global) → ℕ → List (Option ℕ)
row_at rows i = option_map_or (λ row. row.items) (slice_get rows i) []

-- Row i has the owners of the addresses of host i. It is empty if there is no such host.
abbrev pub AreShared : (new old : List Host) → List (Vec (Option ℕ) Global) → Type 0
AreShared new old rows = (i : ℕ) → AreSharers new old i (row_at rows i)

-- The flow from one owner to another, if both are hosts and the list has the flow.
abbrev pub flow_in : List Flow → (from to : Option ℕ) → Option Flow
flow_in flows (Some i) (Some j) = if has flows (record { from = i; to = j }) then Some (record { from = i; to = j }) else None
flow_in flows (Some i) None = None
flow_in flows None to = None
